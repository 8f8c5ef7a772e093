-- Runs under the program's limits are short, so that the laws of short runs hold of them without a premise.
use Rattle.std.proofs.Common.{◌≡◌, ℕ, zero, suc, ◌+◌, ◌≤◌, Bool, true, false, List, [], ◌∷◌, refl, sym, ◌==◌, arith}
use Rattle.std.specs.Prelude.{Option, Some, None, if◌then◌else◌, ◌||◌, is_some, nat_lt, take}
use Rattle.std.proofs.lemmas.Bool.Decides.{nat_tests}
use Rattle.std.proofs.lemmas.Option.{none-some}
use Rattle.world_laws.proofs.Types.{Event, Step}
use Rattle.world_laws.proofs.Types.step
use Rattle.geo_base.specs.Happening.{happens, halts_planned, stops}
use Rattle.geo_base.specs.Laws.{IsShort}
use Rattle.geo_base.specs.Moments.{Moment, Settling, InRound, NotBegun, Resetting, partly_written, settling_so_far, world_at, world_between}
use Rattle.geo_base.specs.Planned.{Planned, planned}
use Rattle.geo_base.specs.Run.{Ran, all_limits, all_settle, budget, counting_round, ends_or, goes_on, most_events, most_sent_bytes, or_else, pairs, resets_of, round_of, rounds_of, run_from, run_under, settled_world, settles, steps}
use Rattle.geo_base.specs.Setup.{Setup}
use Rattle.geo_base.specs.World.{World, opening_world}
use Rattle.world_laws.proofs.Walks.Walk.{on_elim, on_if}

-- the most events of a run, idle ones included
abbrev Few : Ran → Type 0
Few r = r.world.events ≤ most_events

-- a world that passes no limit has no more
not_over : (b : Bool) (o : Option ℕ) → or_else (if b then Some 2 else None) o ≡ None → b ≡ false
not_over true o h = absurd (none-some 2 (sym h))
not_over false o h = refl

unlimited : (w : World) → all_limits w ≡ None → w.events ≤ most_events
unlimited w h =
    let is = not_over (nat_lt most_events (w.events + w.idle)) (if nat_lt most_sent_bytes w.frame_bytes then Some 3 else None) h in grind (arith, nat_tests, is)

ended : (r : Ran) (w : World) (o : Option ℕ) → all_limits w ≡ o → Few r → Few (ends_or r w o)
ended r w None is few = unlimited w is
ended r w (Some n) is few = few

gone_on : (r : Ran) (w : World) → Few r → Few (goes_on all_limits r w)
gone_on r w few = on_if Few (is_some r.ended) _ _ few (ended r w (all_limits w) refl few)

all_settled : (s : Setup) (r : Ran) (es : List Event) → Few r → Few (all_settle all_limits s r es)
all_settled s r [] few = few
all_settled s r (e ∷ es) few = all_settled s (settles all_limits s r e) es (gone_on r (record (happens s r.world e) { idle = r.world.idle }) few)

rounds_done : (n : ℕ) (s : Setup) (r : Ran) → Few r → Few (rounds_of n all_limits s r)
rounds_done zero s r few = few
rounds_done (suc n) s r few =
    let r' : Ran = all_settle all_limits s r (round_of (pairs s)) in
    let few' : Few r' = all_settled s r (round_of (pairs s)) few in
    on_elim Few (is_some r'.ended || (r'.world.events == r.world.events)) r' (rounds_of n all_limits s (counting_round r')) few' (rounds_done n s (counting_round r') few')

step_done : (s : Setup) (r : Ran) (e : Step) → Few r → Few (steps all_limits s r e)
unfolding steps settled_world
step_done s r (step.Plain e) few = gone_on r (happens s r.world e) few
step_done s r (step.Halt n e) few = gone_on r (halts_planned s r.world n (planned s r.world e)) few
step_done s r step.Settle few = rounds_done (budget s r.world + 1) s (all_settle all_limits s r (resets_of (pairs s))) (all_settled s r (resets_of (pairs s)) few)
step_done s r step.Stop few = gone_on r (stops s r.world) few

steps_done : (s : Setup) (r : Ran) (es : List Step) → Few r → Few (run_from all_limits s r es)
steps_done s r [] few = few
steps_done s r (e ∷ es) few = steps_done s (steps all_limits s r e) es (step_done s r e few)

ran_few : (s : Setup) (es : List Step) → Few (run_under all_limits s es)
ran_few s es = steps_done s (record { world = opening_world s; ended = None }) es (omega arith)

settled_few : (s : Setup) (r : Ran) (at : Settling) → Few r → Few (settling_so_far all_limits s r at)
settled_few s r NotBegun few = few
settled_few s r (Resetting k) few = all_settled s r (take k (resets_of (pairs s))) few
settled_few s r (InRound n k) few =
    all_settled s (rounds_of n all_limits s (all_settle all_limits s r (resets_of (pairs s)))) (take k (round_of (pairs s))) (rounds_done n s (all_settle all_limits s r (resets_of (pairs s))) (all_settled s r (resets_of (pairs s)) few))

few_short : (w : World) → w.events ≤ most_events → IsShort w
few_short w few = omega (arith, few)

-- at the end
pub limited_short : (s : Setup) (es : List Step) → IsShort (run_under all_limits s es).world
limited_short s es = few_short (run_under all_limits s es).world (ran_few s es)

-- between any two events, inside settling too
pub between_short : (s : Setup) (es : List Step) (at : Settling) → IsShort (world_between all_limits s es at)
between_short s es at = few_short (world_between all_limits s es at) (settled_few s (run_under all_limits s es) at (ran_few s es))

-- and in the midst of an event's writes
pub moment_short : (s : Setup) (m : Moment) → IsShort (world_at all_limits s m)
moment_short s m = by (planned s w m.event)
  where
    w : World
    w = world_between all_limits s m.steps m.settling

    by : (o : Option Planned) → IsShort (partly_written s w m.writes o)
    by None = between_short s m.steps m.settling
    by (Some p) = between_short s m.steps m.settling
