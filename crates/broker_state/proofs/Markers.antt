-- The next own marker's sequence id, with one more entry.
use Rattle.std.proofs.Common.{◌≡◌, ◌∙◌, ℕ, ◌+◌, ◌-◌, ◌^◌, max, min, Bool, true, false, List, [], ◌∷◌, ◌++◌, refl, ap, sym, arith}
use Rattle.std.specs.Prelude.{if◌then◌else◌}
use Rattle.geo_base.specs.declared.entry.Entry.{Entry}
use Rattle.geo_base.specs.Entry.{is_own_marker}
use Rattle.geo_base.specs.Topic.{next_marker}
use Rattle.durable_parts.proofs.Markers.{next_marker-push}
use Rattle.broker_state.specs.State.{marker_number}

capped : (s n : ℕ) (b : Bool) → min (if b then max (s + 1) n else n) (2 ^ 64 - 1) ≡ (if b then max (min n (2 ^ 64 - 1)) (min (s + 1) (2 ^ 64 - 1)) else min n (2 ^ 64 - 1))
capped s n true = omega arith
capped s n false = refl

pub marker_more : (own : ℕ) (es : List Entry) (e : Entry) (next : ℕ) → next ≡ marker_number own es
    → (if is_own_marker own e then max next (min (e.ident.seq + 1) (2 ^ 64 - 1)) else next) ≡ marker_number own (es ++ e ∷ [])
marker_more own es e next is =
    ap (λ (n : ℕ). if is_own_marker own e then max n (min (e.ident.seq + 1) (2 ^ 64 - 1)) else n) is
    ∙ sym (capped e.ident.seq (next_marker own es) (is_own_marker own e))
    ∙ ap (λ (n : ℕ). min n (2 ^ 64 - 1)) (sym (next_marker-push own es e))
