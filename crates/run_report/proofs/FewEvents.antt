-- A run within the program's limits has at most 2,000,000 events.
use Rattle.std.proofs.Common.{◌≡◌, ℕ, zero, suc, ◌+◌, ◌≤◌, Bool, true, false, List, [], ◌∷◌, refl, sym, ◌==◌, arith}
use Rattle.std.specs.Prelude.{Option, Some, None, if◌then◌else◌, ◌||◌, is_some, nat_lt}
use Rattle.std.proofs.lemmas.Bool.Decides.{nat_tests}
use Rattle.std.proofs.lemmas.Option.{none-some}
use Rattle.geo_base.specs.declared.event.Event.{Event}
use Rattle.geo_base.specs.declared.event.Step.{Step}
use Rattle.geo_base.specs.declared.event.Step.TheVariants as step
use Rattle.geo_base.specs.Happening.{happens, halts_planned, stops}
use Rattle.geo_base.specs.Planned.{planned}
use Rattle.geo_base.specs.Run.{Ran, all_limits, all_settle, budget, counting_round, ends_or, goes_on, most_events, most_sent_bytes, or_else, pairs, resets_of, round_of, rounds_of, run_from, run_under, settled_world, settles, steps}
use Rattle.geo_base.specs.Setup.{Setup}
use Rattle.geo_base.specs.World.{World, opening_world}
use Rattle.world_laws.proofs.Walks.Walk.{on_elim, on_if}

abbrev Few : Ran → Type 0
Few r = r.world.events ≤ most_events

not_over : (b : Bool) (o : Option ℕ) → or_else (if b then Some 2 else None) o ≡ None → b ≡ false
not_over true o h = absurd (none-some 2 (sym h))
not_over false o h = refl

within : (w : World) → all_limits w ≡ None → w.events ≤ most_events
within w h =
    let is = not_over (nat_lt most_events (w.events + w.idle)) (if nat_lt most_sent_bytes w.frame_bytes then Some 3 else None) h in grind (arith, nat_tests, is)

ended : (r : Ran) (w : World) (o : Option ℕ) → all_limits w ≡ o → Few r → Few (ends_or r w o)
ended r w None is few = within w is
ended r w (Some n) is few = few

gone_on : (r : Ran) (w : World) → Few r → Few (goes_on all_limits r w)
gone_on r w few = on_if Few (is_some r.ended) _ _ few (ended r w (all_limits w) refl few)

all_settled : (s : Setup) (r : Ran) (es : List Event) → Few r → Few (all_settle all_limits s r es)
all_settled s r [] few = few
all_settled s r (e ∷ es) few = all_settled s (settles all_limits s r e) es (gone_on r (record (happens s r.world e) { idle = r.world.idle }) few)

rounds_done : (n : ℕ) (s : Setup) (r : Ran) → Few r → Few (rounds_of n all_limits s r)
rounds_done zero s r few = few
rounds_done (suc n) s r few =
    let r' : Ran = all_settle all_limits s r (round_of (pairs s)) in
    let few' : Few r' = all_settled s r (round_of (pairs s)) few in
    on_elim Few (is_some r'.ended || (r'.world.events == r.world.events)) r' (rounds_of n all_limits s (counting_round r')) few' (rounds_done n s (counting_round r') few')

step_done : (s : Setup) (r : Ran) (e : Step) → Few r → Few (steps all_limits s r e)
unfolding steps settled_world
step_done s r (step.Plain e) few = gone_on r (happens s r.world e) few
step_done s r (step.Halt n e) few = gone_on r (halts_planned s r.world n (planned s r.world e)) few
step_done s r step.Settle few = rounds_done (budget s r.world + 1) s (all_settle all_limits s r (resets_of (pairs s))) (all_settled s r (resets_of (pairs s)) few)
step_done s r step.Stop few = gone_on r (stops s r.world) few

steps_done : (s : Setup) (r : Ran) (es : List Step) → Few r → Few (run_from all_limits s r es)
steps_done s r [] few = few
steps_done s r (e ∷ es) few = steps_done s (steps all_limits s r e) es (step_done s r e few)

pub ran_few : (s : Setup) (es : List Step) → (run_under all_limits s es).world.events ≤ most_events
ran_few s es = steps_done s (record { world = opening_world s; ended = None }) es (omega arith)
