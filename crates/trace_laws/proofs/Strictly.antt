-- What an audit accepts that judges gaps, it accepts by its other rules too.
use Rattle.std.proofs.Common.{◌≡◌, ℕ, List, [], ◌∷◌, refl, sym, ap, ◌∙◌}
use Rattle.std.specs.Prelude.{Option, Some, None, Ok}
use Rattle.std.proofs.lemmas.Option.{none-some}
use Rattle.geo_base.specs.Audit.{audited_from, judged, refused}
use Rattle.geo_base.specs.Mirror.{Mirrors, told}
use Rattle.geo_base.specs.Run.{or_else}
use Rattle.geo_base.specs.Setup.{Setup}
use Rattle.geo_base.specs.TraceItems.{Item}
use Rattle.audit.specs.Strict.{audited_from_by, gaps, refused_by}
use Rattle.audit.specs.declared.strictness.Strictness.{Strictness}
use Rattle.audit.specs.declared.strictness.Strictness.TheVariants as strictness
use Rattle.trace_laws.proofs.Refusals.{accepted}

pub both_none : (o p : Option ℕ) → or_else o p ≡ None → (o ≡ None) × (p ≡ None)
both_none None p h = (refl, h)
both_none (Some n) p h = absurd (none-some n (sym h))

pub not_refused : (k : Strictness) (s : Setup) (a : Mirrors) (i : Item) → refused_by k s a i ≡ None → refused s a i ≡ None
not_refused strictness.Plain s a i h = h
not_refused strictness.Whole s a i h = (both_none (refused s a i) (gaps s a i) h).0

pub plainly : (k : Strictness) (s : Setup) (a b : Mirrors) (is : List Item) → audited_from_by k s a is ≡ Ok b → audited_from s a is ≡ Ok b
plainly k s a b [] h = h
plainly k s a b (i ∷ is) h =
    let both = accepted a.events (refused_by k s a i) (audited_from_by k s (told s a i) is) b h in
    ap (λ (o : Option ℕ). judged a.events o (audited_from s (told s a i) is)) (not_refused k s a i both.0) ∙ plainly k s (told s a i) b is both.1

pub as_plain : (s : Setup) (a : Mirrors) (is : List Item) → audited_from_by strictness.Plain s a is ≡ audited_from s a is
as_plain s a [] = refl
as_plain s a (i ∷ is) = ap (judged a.events (refused s a i)) (as_plain s (told s a i) is)
