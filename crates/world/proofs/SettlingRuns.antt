-- Settling under the limits of a run: events and rounds, one by one.
use Rattle.std.proofs.Common.{◌≡◌, ℕ, zero, suc, ◌+◌, ◌≤◌, Bool, true, false, List, [], ◌∷◌, refl, sym, ◌∙◌, ap, ◌==◌, arith}
use Rattle.std.proofs.lemmas.Bool.{eq-eqb, false≢true}
use Rattle.std.proofs.lemmas.Option.{none-some}
use Rattle.std.specs.Prelude.{Option, None, Some, ◌||◌, is_some}
use Rattle.geo_base.specs.declared.event.Event.{Event}
use Rattle.geo_base.specs.Run.{Limits, Ran, all_limits, all_settle, budget, counting_round, ends_or, no_limits, pairs, resets_of, round_of, rounds_of, settled_world}
use Rattle.geo_base.specs.Setup.{Setup}
use Rattle.geo_base.specs.World.{World}
use Rattle.world_laws.proofs.Budget.InTime.{settles_in_time}
use Rattle.world.specs.Runs.{at_world}
use Rattle.world.specs.Settling.{EndsWithin, settled_by}
pub use Rattle.geo_base.proofs.Sums.{eq_apart as differ}

-- a run that came to a limit
abbrev pub ended_at : World → ℕ → Ran
ended_at w n = record { world = w; ended = Some n }

-- ---- events

pub stays_ended : (s : Setup) (es : List Event) (w : World) (n : ℕ) → all_settle all_limits s (ended_at w n) es ≡ ended_at w n
stays_ended s [] w n = refl
stays_ended s (e ∷ es) w n = stays_ended s es w n

-- what is left after an event, by the limit that it would pass
rest_of : (s : Setup) (w : World) (e : Event) (es : List Event) (o : Option ℕ) → all_limits (settled_by s w e) ≡ o
    → all_settle all_limits s (at_world w) (e ∷ es) ≡ all_settle all_limits s (ends_or (at_world w) (settled_by s w e) o) es
rest_of s w e es o is = ap (λ (l : Option ℕ). all_settle all_limits s (ends_or (at_world w) (settled_by s w e) l) es) is

pub goes_on : (s : Setup) (w : World) (e : Event) (es : List Event) → all_limits (settled_by s w e) ≡ None
    → all_settle all_limits s (at_world w) (e ∷ es) ≡ all_settle all_limits s (at_world (settled_by s w e)) es
goes_on s w e es is = rest_of s w e es None is

pub ends_here : (s : Setup) (w : World) (e : Event) (es : List Event) (n : ℕ) → all_limits (settled_by s w e) ≡ Some n
    → all_settle all_limits s (at_world w) (e ∷ es) ≡ ended_at w n
ends_here s w e es n is = rest_of s w e es (Some n) is ∙ stays_ended s es w n

-- a run that no limit ended is the run without limits
pub unlimited : (s : Setup) (es : List Event) (w v : World) → all_settle all_limits s (at_world w) es ≡ at_world v → all_settle no_limits s (at_world w) es ≡ at_world v
unlimited s [] w v is = is
unlimited s (e ∷ es) w v is = by (all_limits (settled_by s w e)) refl (λ free. unlimited s es (settled_by s w e) v (sym (goes_on s w e es free) ∙ is))
  where
    by : (o : Option ℕ) → all_limits (settled_by s w e) ≡ o
        → (all_limits (settled_by s w e) ≡ None → all_settle no_limits s (at_world (settled_by s w e)) es ≡ at_world v)
        → all_settle no_limits s (at_world (settled_by s w e)) es ≡ at_world v
    by None free rest = rest free
    by (Some n) past rest = absurd (none-some n (sym (ap (λ (r : Ran). r.ended) (sym (ends_here s w e es n past) ∙ is))))

-- ---- rounds

-- a round, by what it comes to
behind : (l : Limits) (s : Setup) (more : ℕ) (w : World) (r : Ran) → all_settle l s (at_world w) (round_of (pairs s)) ≡ r
    → rounds_of (suc more) l s (at_world w)
    ≡ elim (is_some r.ended || (r.world.events == w.events)) as (λ b. Ran) [ true ↦ r | false ↦ rounds_of more l s (counting_round r) ]
behind l s more w r is =
    ap (λ (q : Ran). elim (is_some q.ended || (q.world.events == w.events)) as (λ b. Ran) [ true ↦ q | false ↦ rounds_of more l s (counting_round q) ]) is

on_false : (b : Bool) (x y : Ran) → b ≡ false → elim b as (λ b. Ran) [ true ↦ x | false ↦ y ] ≡ y
on_false true x y is = absurd (false≢true (sym is))
on_false false x y is = refl

on_true : (b : Bool) (x y : Ran) → b ≡ true → elim b as (λ b. Ran) [ true ↦ x | false ↦ y ] ≡ x
on_true true x y is = refl
on_true false x y is = absurd (false≢true is)

abbrev pub counted : World → World
counted v = record v { rounds = v.rounds + 1 }

-- one that did something
pub round_more : (l : Limits) (s : Setup) (more : ℕ) (w v : World) → all_settle l s (at_world w) (round_of (pairs s)) ≡ at_world v → (v.events ≡ w.events → ⊥)
    → rounds_of (suc more) l s (at_world w) ≡ rounds_of more l s (at_world (counted v))
round_more l s more w v is busy =
    behind l s more w (at_world v) is ∙ on_false (v.events == w.events) (at_world v) (rounds_of more l s (at_world (counted v))) (differ v.events w.events busy)

-- one that did nothing
pub round_last : (l : Limits) (s : Setup) (more : ℕ) (w v : World) → all_settle l s (at_world w) (round_of (pairs s)) ≡ at_world v → v.events ≡ w.events
    → rounds_of (suc more) l s (at_world w) ≡ at_world v
round_last l s more w v is quiet =
    behind l s more w (at_world v) is ∙ on_true (v.events == w.events) (at_world v) (rounds_of more l s (at_world (counted v))) (eq-eqb v.events w.events quiet)

-- one that came to a limit
pub round_ended : (l : Limits) (s : Setup) (more : ℕ) (w : World) (n : ℕ) → (all_settle l s (at_world w) (round_of (pairs s))).ended ≡ Some n
    → rounds_of (suc more) l s (at_world w) ≡ all_settle l s (at_world w) (round_of (pairs s))
round_ended l s more w n is =
    let q : Ran = all_settle l s (at_world w) (round_of (pairs s)) in
    on_true (is_some q.ended || (q.world.events == w.events)) q (rounds_of more l s (counting_round q)) (ap (λ (o : Option ℕ). is_some o || (q.world.events == w.events)) is)

-- so many rounds are some, and one fewer are enough after one that did something
pub ends_later : (s : Setup) (w : World) → EndsWithin zero s w → ⊥
ends_later s w ends = omega (arith, ends)

pub ends_next : (s : Setup) (more : ℕ) (w v : World) → EndsWithin (suc more) s w → all_settle all_limits s (at_world w) (round_of (pairs s)) ≡ at_world v
    → (v.events ≡ w.events → ⊥) → v.rounds ≡ w.rounds → EndsWithin more s (counted v)
ends_next s more w v ends is busy same =
    let e = ap (λ (r : Ran). r.world.rounds) (round_more no_limits s more w v (unlimited s (round_of (pairs s)) w v is) busy) in omega (arith, ends, e, same)

-- ---- settling

settled_is : (l : Limits) (s : Setup) (w v : World) → all_settle l s (at_world w) (resets_of (pairs s)) ≡ at_world v
    → settled_world l s (at_world w) ≡ rounds_of (suc (budget s w)) l s (at_world v)
unfolding settled_world
settled_is l s w v is =
    let one : budget s w + 1 ≡ suc (budget s w) = omega arith in
    ap (λ (m : ℕ). rounds_of m l s (all_settle l s (at_world w) (resets_of (pairs s)))) one ∙ ap (λ (r : Ran). rounds_of (suc (budget s w)) l s r) is

-- rounds begin where no reset came to a limit
pub resets_done : (s : Setup) (w v : World) → all_settle all_limits s (at_world w) (resets_of (pairs s)) ≡ at_world v
    → rounds_of (suc (budget s w)) all_limits s (at_world v) ≡ settled_world all_limits s (at_world w)
resets_done s w v is = sym (settled_is all_limits s w v is)

-- and end in time
pub ends_in_time : (s : Setup) (w v : World) → all_settle all_limits s (at_world w) (resets_of (pairs s)) ≡ at_world v → v.rounds ≡ w.rounds
    → EndsWithin (suc (budget s w)) s v
ends_in_time s w v is same =
    let e = ap (λ (r : Ran). r.world.rounds) (settled_is no_limits s w v (unlimited s (resets_of (pairs s)) w v is)) in
    let most : (settled_world no_limits s (at_world w)).world.rounds ≤ w.rounds + budget s w = (settles_in_time s w).rounds in omega (arith, e, most, same)

-- a reset that came to a limit ended the run
pub resets_ended : (s : Setup) (w : World) (n : ℕ) → (all_settle all_limits s (at_world w) (resets_of (pairs s))).ended ≡ Some n
    → settled_world all_limits s (at_world w) ≡ all_settle all_limits s (at_world w) (resets_of (pairs s))
unfolding settled_world
resets_ended s w n is =
    let q : Ran = all_settle all_limits s (at_world w) (resets_of (pairs s)) in
    let one : budget s w + 1 ≡ suc (budget s w) = omega arith in
    ap (λ (m : ℕ). rounds_of m all_limits s q) one ∙ none_left s (budget s w) q n is
  where
    still : (s : Setup) (es : List Event) (q : Ran) (n : ℕ) → q.ended ≡ Some n → all_settle all_limits s q es ≡ q
    still s es q n is = rw is (stays_ended s es q.world n)

    none_left : (s : Setup) (more : ℕ) (q : Ran) (n : ℕ) → q.ended ≡ Some n → rounds_of (suc more) all_limits s q ≡ q
    none_left s more q n is =
        let same = still s (round_of (pairs s)) q n is in
        ap (λ (r : Ran). elim (is_some r.ended || (r.world.events == q.world.events)) as (λ b. Ran) [ true ↦ r | false ↦ rounds_of more all_limits s (counting_round r) ]) same
        ∙ on_true (is_some q.ended || (q.world.events == q.world.events)) q (rounds_of more all_limits s (counting_round q)) (ap (λ (o : Option ℕ). is_some o || (q.world.events == q.world.events)) is)
