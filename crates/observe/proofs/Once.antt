-- What the tables say of what stands once, and whether it stands at all.
use Rattle.std.proofs.Common.{◌≡◌, ℕ, ◌+◌, Bool, true, false, List, [], ◌∷◌, refl, sym, ap, ◌∙◌}
use Rattle.std.specs.Prelude.{Option, Some, is_some, if◌then◌else◌, ◌||◌}
use Rattle.std.specs.List.{list_any}
use Rattle.geo_base.specs.declared.entry.Entry.{Entry}
use Rattle.geo_base.specs.declared.entry.Ident.{Ident}
use Rattle.geo_base.specs.Entry.{same_ident}
use Rattle.geo_base.specs.Topic.{accepts}
use Rattle.topic_store.specs.declared.table.Verdict.TheVariants as judged
use Rattle.topic_store.specs.Table.{Row, Tells, stream_of, verdict}
use Rattle.geo_base.specs.Setup.{Setup}
use Rattle.geo_base.specs.declared.position.Position.{Position}
use Rattle.observation.specs.Findings.{is_stored}
use Rattle.observation.specs.Observed.{Observation, entries_seen, first_from, may_be_later}

pub new_accepted : (rows : List Row) (es : List Entry) (e : Entry) → Tells rows es → verdict rows (stream_of e.ident) e.ident.seq ≡ judged.New → accepts es e.ident ≡ true
new_accepted rows es e h new = (h.at e.ident).0 new

pub seen_refused : (rows : List Row) (es : List Entry) (e : Entry) (k : ℕ) → Tells rows es → verdict rows (stream_of e.ident) e.ident.seq ≡ judged.Seen k → accepts es e.ident ≡ false
seen_refused rows es e k h seen = by (accepts es e.ident) refl
  where
    by : (b : Bool) → accepts es e.ident ≡ b → b ≡ false
    by false is = refl
    by true is = let new = (h.at e.ident).1 is in absurd (cc)

-- an identity stands somewhere where it has a first
stored_from : (n : ℕ) (es : List Entry) (g : Ident) → is_some (first_from n es g) ≡ list_any (λ (e : Entry). same_ident e.ident g) es
stored_from n [] g = refl
stored_from n (e ∷ es) g = by (same_ident e.ident g) (stored_from (n + 1) es g)
  where
    by : (b : Bool) → is_some (first_from (n + 1) es g) ≡ list_any (λ (f : Entry). same_ident f.ident g) es → is_some (if b then Some n else first_from (n + 1) es g) ≡ (b || list_any (λ (f : Entry). same_ident f.ident g) es)
    by true h = refl
    by false h = h

pub stored_first : (es : List Entry) (g : Ident) → is_some (first_from 0 es g) ≡ list_any (λ (e : Entry). same_ident e.ident g) es
stored_first es g = stored_from 0 es g

-- a message stands in the topic of its cluster where that has a first of its identity, and no position there is later
pub stored_where : (s : Setup) (o : Observation) (t : ℕ) (g : Ident) (p : Position) (es : List Entry) (later b : Bool) (first : Option ℕ) → later ≡ may_be_later s o t g.origin p → later ≡ false → es ≡ entries_seen s o t g.origin
    → first ≡ first_from 0 es g → b ≡ is_some first → b ≡ is_stored s o t g p
stored_where s o t g p es later b first told none is at some =
    some
    ∙ (ap is_some at
    ∙ (stored_first es g
    ∙ (ap (λ (fs : List Entry). list_any (λ (e : Entry). same_ident e.ident g) fs) is
    ∙ ap (λ (c : Bool). c || list_any (λ (e : Entry). same_ident e.ident g) (entries_seen s o t g.origin)) (sym none ∙ told))))
