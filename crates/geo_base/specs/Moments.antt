-- The moments of a run: between two steps, between two events of settling, and between two durable writes of one event.
use Rattle.std.specs.Prelude.{ℕ, List, take, Option, Some, None, slice_set}
use Rattle.geo_base.specs.Types.{Event, Step}
use Rattle.geo_base.specs.Plan.{all_written}
use Rattle.geo_base.specs.Planned.{Planned, planned}
use Rattle.geo_base.specs.Run.{Limits, Ran, all_settle, pairs, resets_of, round_of, rounds_of, run_under}
use Rattle.geo_base.specs.Setup.{Setup}
use Rattle.geo_base.specs.World.{World, broker_at, node}

-- How far the settling has come that follows some steps: it has not begun; its first k resets are done; or all resets, so many
-- rounds, and the first k events of the next one. Settling itself may end sooner; what is said of all moments is said of more
pub data Settling : Type 0 where
  NotBegun : Settling
  Resetting : (k : ℕ) → Settling
  InRound : (rounds k : ℕ) → Settling

abbrev pub settling_so_far : Limits → Setup → Ran → Settling → Ran
settling_so_far l s r NotBegun = r
settling_so_far l s r (Resetting k) = all_settle l s r (take k (resets_of (pairs s)))
settling_so_far l s r (InRound n k) = all_settle l s (rounds_of n l s (all_settle l s r (resets_of (pairs s)))) (take k (round_of (pairs s)))

-- the world when an event has done the first k of its durable writes, and nothing else yet
abbrev pub partly_written : Setup → World → ℕ → Option Planned → World
partly_written s w k None = w
partly_written s w k (Some p) =
    let n = node s p.topic p.cluster in record w { brokers = slice_set w.brokers n (all_written s.per_ledger (broker_at w n) (take k p.plan.writes)) }

-- a moment: some steps are done, then a part of settling, then the first so many durable writes of an event
pub record Moment : Type 0 where
  pub steps : List Step
  pub settling : Settling
  pub event : Event
  pub writes : ℕ

-- the world between two events
abbrev pub world_between : Limits → Setup → List Step → Settling → World
world_between l s es at = (settling_so_far l s (run_under l s es) at).world

-- the world at a moment of a run under limits
abbrev pub world_at : Limits → Setup → Moment → World
world_at l s m = let w = world_between l s m.steps m.settling in partly_written s w m.writes (planned s w m.event)
