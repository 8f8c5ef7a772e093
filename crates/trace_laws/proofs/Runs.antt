-- Each item of a run is told whole by its line, and the first one begins an event.
use Rattle.std.proofs.Common.{◌≡◌, ℕ, zero, suc, ◌+◌, ◌==◌, Bool, true, false, List, [], ◌∷◌, ◌++◌, All, refl, sym, arith}
use Rattle.std.specs.Prelude.{◌||◌, Option, Some, None, if◌then◌else◌, is_some, nat_lt}
use Rattle.std.proofs.lemmas.Bool.Decides.{nat_tests}
use Rattle.std.proofs.lemmas.Option.{none-some}
use Rattle.world_laws.proofs.Types.{Event, Step}
use Rattle.world_laws.proofs.Types.step
use Rattle.geo_base.specs.Happening.{happens, halts_planned}
use Rattle.geo_base.specs.Laws.{IsShort}
use Rattle.geo_base.specs.Planned.{planned}
use Rattle.geo_base.specs.Run.{Ran, all_limits, all_settle, budget, counting_round, ends_or, goes_on, is_idle, most_events, most_sent_bytes, or_else, pairs, resets_of, round_of, rounds_of, settled_world, settles, steps}
use Rattle.geo_base.specs.Scripted.{IsScripted}
use Rattle.geo_base.specs.Setup.{Setup}
use Rattle.geo_base.specs.TraceItems.{Begins, Item, Writes}
use Rattle.geo_base.specs.Traced.{all_writes, event_items, halt_items, items_from, rounds_items, settling_items, step_items, traced, unless_ended}
use Rattle.geo_base.specs.World.{World, opening_world}
use Rattle.script_text.specs.Scenario.{IsClient}
use Rattle.world_laws.proofs.Replicating.Effects.{Each, each_both}
use Rattle.world_laws.proofs.Induction.Runs.{IsKeptByEvents}
use Rattle.world_laws.proofs.Walks.Walk.{on_elim, on_if}
use Rattle.trace_laws.proofs.Traced.{few_short}
use Rattle.trace_laws.proofs.TextEvents.{Known, known_kept, planned_told}
use Rattle.trace_laws.proofs.TextLines.{IsToldItem}

-- the first item, where there is one, begins an event
abbrev pub BeginsFirst : List Item → Type 0
BeginsFirst [] = Unit {0}
BeginsFirst (Begins n ∷ is) = Unit {0}
BeginsFirst (Writes t x a ∷ is) = ⊥

pub record AreTold (s : Setup) (is : List Item) : Type 0 where
  pub each : Each (IsToldItem s) is
  pub first : BeginsFirst is

none_told : (s : Setup) → AreTold s []
none_told s = record { each = tt; first = tt }

first_both : (is js : List Item) → BeginsFirst is → BeginsFirst js → BeginsFirst (is ++ js)
first_both [] js h k = k
first_both (Begins n ∷ is) js h k = tt
first_both (Writes t x a ∷ is) js h k = absurd h

both_told : (s : Setup) (is js : List Item) → AreTold s is → AreTold s js → AreTold s (is ++ js)
both_told s is js h k = record { each = each_both (IsToldItem s) is js h.each k.each; first = first_both is js h.first k.first }

-- ---- one event

begun : (s : Setup) (w : World) (is : List Item) → IsShort w → Each (IsToldItem s) is → AreTold s (Begins (w.events + 1) ∷ is)
begun s w is short each = record { each = (omega (arith, short), each); first = tt }

event_told : (s : Setup) → IsScripted s → (w : World) (e : Event) → Known s w → IsShort w → AreTold s (event_items s w e)
unfolding event_items
event_told s scripted w e known short =
    on_if (AreTold s) (is_idle s w e) [] _ (none_told s) (begun s w _ short (planned_told s scripted w (all_writes (planned s w e)) e known short))

halt_told : (s : Setup) → IsScripted s → (w : World) (k : ℕ) (e : Event) → Known s w → IsShort w → AreTold s (halt_items s w k e)
unfolding halt_items
halt_told s scripted w k e known short =
    on_if (AreTold s) ((halts_planned s w k (planned s w e)).events == w.events) [] _ (none_told s) (begun s w _ short (planned_told s scripted w k e known short))

unless_told : (s : Setup) (r : Ran) (is : List Item) → AreTold s is → AreTold s (unless_ended r is)
unless_told s r is h = on_if (AreTold s) (is_some r.ended) [] is (none_told s) h

-- ---- a run within the limits

not_over : (b : Bool) (o : Option ℕ) → or_else (if b then Some 2 else None) o ≡ None → b ≡ false
not_over true o h = absurd (none-some 2 (sym h))
not_over false o h = refl

within : (w : World) → all_limits w ≡ None → IsShort w
within w h =
    let is = not_over (nat_lt most_events (w.events + w.idle)) (if nat_lt most_sent_bytes w.frame_bytes then Some 3 else None) h in
    few_short w (grind (arith, nat_tests, is))

-- what the induction carries
record Fine (s : Setup) (r : Ran) : Type 0 where
  known : Known s r.world
  short : IsShort r.world

gone_fine : (s : Setup) (r : Ran) (w' : World) → Fine s r → Known s w' → Fine s (goes_on all_limits r w')
gone_fine s r w' fine known = on_if (Fine s) (is_some r.ended) r _ fine (limited (all_limits w') refl)
  where
    limited : (o : Option ℕ) → all_limits w' ≡ o → Fine s (ends_or r w' o)
    limited None is = record { known = known; short = within w' is }
    limited (Some n) is = record { known = fine.known; short = fine.short }

settles_fine : (s : Setup) → IsKeptByEvents s (Known s) → (r : Ran) (e : Event) → Fine s r → Fine s (settles all_limits s r e)
settles_fine s k r e fine = gone_fine s r _ fine (k.idle (happens s r.world e) r.world.idle (k.event r.world e fine.known))

all_settle_fine : (s : Setup) → IsKeptByEvents s (Known s) → (r : Ran) (es : List Event) → Fine s r → Fine s (all_settle all_limits s r es)
all_settle_fine s k r [] fine = fine
all_settle_fine s k r (e ∷ es) fine = all_settle_fine s k (settles all_limits s r e) es (settles_fine s k r e fine)

counted_fine : (s : Setup) → IsKeptByEvents s (Known s) → (r : Ran) → Fine s r → Fine s (counting_round r)
counted_fine s k r fine = record { known = k.round r.world (r.world.rounds + 1) fine.known; short = fine.short }

rounds_fine : (m : ℕ) (s : Setup) → IsKeptByEvents s (Known s) → (r : Ran) → Fine s r → Fine s (rounds_of m all_limits s r)
rounds_fine zero s k r fine = fine
rounds_fine (suc m) s k r fine =
    let r' : Ran = all_settle all_limits s r (round_of (pairs s)) in
    let fine' : Fine s r' = all_settle_fine s k r (round_of (pairs s)) fine in
    on_elim (Fine s) (is_some r'.ended || (r'.world.events == r.world.events)) r' (rounds_of m all_limits s (counting_round r')) fine'
    (rounds_fine m s k (counting_round r') (counted_fine s k r' fine'))

step_fine : (s : Setup) → IsKeptByEvents s (Known s) → (r : Ran) (e : Step) → Fine s r → Fine s (steps all_limits s r e)
unfolding steps settled_world
step_fine s k r (step.Plain e) fine = gone_fine s r _ fine (k.event r.world e fine.known)
step_fine s k r (step.Halt n e) fine = gone_fine s r _ fine (k.halts r.world n e fine.known)
step_fine s k r step.Settle fine =
    rounds_fine (budget s r.world + 1) s k (all_settle all_limits s r (resets_of (pairs s))) (all_settle_fine s k r (resets_of (pairs s)) fine)
step_fine s k r step.Stop fine = gone_fine s r _ fine (k.stop r.world fine.known)

settling_told : (s : Setup) → IsScripted s → IsKeptByEvents s (Known s) → (r : Ran) (es : List Event) → Fine s r → AreTold s (settling_items all_limits s r es)
settling_told s scripted k r [] fine = none_told s
settling_told s scripted k r (e ∷ es) fine =
    let r' : Ran = settles all_limits s r e in
    both_told s (unless_ended r' (event_items s r.world e)) (settling_items all_limits s r' es)
    (unless_told s r' (event_items s r.world e) (event_told s scripted r.world e fine.known fine.short)) (settling_told s scripted k r' es (settles_fine s k r e fine))

rounds_told : (m : ℕ) (s : Setup) → IsScripted s → IsKeptByEvents s (Known s) → (r : Ran) → Fine s r → AreTold s (rounds_items m all_limits s r)
rounds_told zero s scripted k r fine = none_told s
rounds_told (suc m) s scripted k r fine =
    let r' : Ran = all_settle all_limits s r (round_of (pairs s)) in
    let fine' : Fine s r' = all_settle_fine s k r (round_of (pairs s)) fine in
    both_told s (settling_items all_limits s r (round_of (pairs s))) _ (settling_told s scripted k r (round_of (pairs s)) fine)
    (on_elim (AreTold s) (is_some r'.ended || (r'.world.events == r.world.events)) [] (rounds_items m all_limits s (counting_round r')) (none_told s)
    (rounds_told m s scripted k (counting_round r') (counted_fine s k r' fine')))

step_told : (s : Setup) → IsScripted s → IsKeptByEvents s (Known s) → (r : Ran) (e : Step) → Fine s r → AreTold s (step_items all_limits s r e)
unfolding step_items
step_told s scripted k r (step.Plain e) fine = unless_told s (steps all_limits s r (step.Plain e)) (event_items s r.world e) (event_told s scripted r.world e fine.known fine.short)
step_told s scripted k r (step.Halt n e) fine = unless_told s (steps all_limits s r (step.Halt n e)) (halt_items s r.world n e) (halt_told s scripted r.world n e fine.known fine.short)
step_told s scripted k r step.Settle fine =
    let r' : Ran = all_settle all_limits s r (resets_of (pairs s)) in
    both_told s (settling_items all_limits s r (resets_of (pairs s))) (rounds_items (budget s r.world + 1) all_limits s r') (settling_told s scripted k r (resets_of (pairs s)) fine)
    (rounds_told (budget s r.world + 1) s scripted k r' (all_settle_fine s k r (resets_of (pairs s)) fine))
step_told s scripted k r step.Stop fine = unless_told s (steps all_limits s r step.Stop) (Begins (r.world.events + 1) ∷ []) (begun s r.world [] fine.short tt)

steps_told : (s : Setup) → IsScripted s → IsKeptByEvents s (Known s) → (r : Ran) (es : List Step) → Fine s r → AreTold s (items_from all_limits s r es)
steps_told s scripted k r [] fine = none_told s
steps_told s scripted k r (e ∷ es) fine =
    let r' : Ran = steps all_limits s r e in
    both_told s (step_items all_limits s r e) (items_from all_limits s r' es) (step_told s scripted k r e fine) (steps_told s scripted k r' es (step_fine s k r e fine))

pub traced_told : (s : Setup) → IsScripted s → All IsClient s.clients → (es : List Step) → AreTold s (traced all_limits s es)
traced_told s scripted texts es =
    let k = known_kept s scripted texts in
    steps_told s scripted k (record { world = opening_world s; ended = None }) es (record { known = k.opening; short = few_short (opening_world s) (omega arith) })
