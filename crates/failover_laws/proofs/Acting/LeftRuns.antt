-- What further steps of a run lead to while a subscription is left, in one run.
use Rattle.std.proofs.Common.{ℕ, List}
use Rattle.world_laws.proofs.Types.{Step}
use Rattle.geo_base.specs.Moments.{Settling, settling_so_far}
use Rattle.geo_base.specs.Run.{Limits, Ran, run_from}
use Rattle.geo_base.specs.Setup.{Setup}
use Rattle.geo_base.specs.World.{World}
use Rattle.world_laws.specs.Reached.{ReachedFrom}
use Rattle.failover_laws.specs.Run.{AllLeave}
use Rattle.failover_laws.specs.Since.{Since}
use Rattle.failover_laws.specs.Switched.{LeftFrom}
use Rattle.failover_laws.proofs.Running.{IsKeptLeaving, all_keep, settling_keeps}

left_goes_on : (s : Setup) (t y : ℕ) (n : List ℕ) (v : World) → IsKeptLeaving s t y n (LeftFrom s t y n v)
left_goes_on s t y n v = record {
  event = λ w e left p. LeftFrom.AfterEvent w e left p;
  halt = λ w k e left p. LeftFrom.AfterHalt w k e left p;
  stop = λ w p. LeftFrom.AfterStop w p;
  idle = λ w k p. LeftFrom.Idling w k p;
  round = λ w k p. LeftFrom.AfterRound w k p;
}

pub all_left : (l : Limits) (s : Setup) (t y : ℕ) (n : List ℕ) (v : World) (r : Ran) (es : List Step) → AllLeave l s t y n r es → LeftFrom s t y n v r.world
    → LeftFrom s t y n v (run_from l s r es).world
all_left l s t y n v r es h p = all_keep l s t y n (LeftFrom s t y n v) (left_goes_on s t y n v) r es h p

-- as far as a settling has come
pub settling_left : (l : Limits) (s : Setup) (t y : ℕ) (n : List ℕ) (v : World) (r : Ran) (at : Settling) → LeftFrom s t y n v r.world → LeftFrom s t y n v (settling_so_far l s r at).world
settling_left l s t y n v r at h = settling_keeps l s t y n (LeftFrom s t y n v) (left_goes_on s t y n v) r at h

-- it is a run, and n is left in it
pub left_reached : (s : Setup) (t y : ℕ) (n : List ℕ) (v w : World) → LeftFrom s t y n v w → ReachedFrom s v w
left_reached s t y n v _ LeftFrom.Starting = ReachedFrom.Starting
left_reached s t y n v _ (LeftFrom.AfterEvent w e h r) = ReachedFrom.AfterEvent w e (left_reached s t y n v w r)
left_reached s t y n v _ (LeftFrom.AfterHalt w k e h r) = ReachedFrom.AfterHalt w k e (left_reached s t y n v w r)
left_reached s t y n v _ (LeftFrom.AfterStop w r) = ReachedFrom.AfterStop w (left_reached s t y n v w r)
left_reached s t y n v _ (LeftFrom.Idling w k r) = ReachedFrom.Idling w k (left_reached s t y n v w r)
left_reached s t y n v _ (LeftFrom.AfterRound w k r) = ReachedFrom.AfterRound w k (left_reached s t y n v w r)

pub left_since : (s : Setup) (t y : ℕ) (n : List ℕ) (v w : World) → LeftFrom s t y n v w → Since s t y n v w
left_since s t y n v _ LeftFrom.Starting = Since.Starting
left_since s t y n v _ (LeftFrom.AfterEvent w e h r) = Since.AfterEvent w e h (left_since s t y n v w r)
left_since s t y n v _ (LeftFrom.AfterHalt w k e h r) = Since.AfterHalt w k e h (left_since s t y n v w r)
left_since s t y n v _ (LeftFrom.AfterStop w r) = Since.AfterStop w (left_since s t y n v w r)
left_since s t y n v _ (LeftFrom.Idling w k r) = Since.Idling w k (left_since s t y n v w r)
left_since s t y n v _ (LeftFrom.AfterRound w k r) = Since.AfterRound w k (left_since s t y n v w r)
