use Rattle.std.proofs.Common.{◌≡◌, ◌<◌, ℕ}
use Rattle.std.specs.Prelude.{slice_index_or}
use Rattle.live_run.specs.declared.crew.Crew.{Crew}
use Rattle.live_run.specs.declared.crew.Ended.TheVariants as ended
use Rattle.live_run.proofs.run.are_whole.Given as goal

-- each so far
abbrev pub invariant-loop-crew : goal.invariant-loop-crew
invariant-loop-crew l = (k : ℕ) (c : Crew) → k < l.crew-index → (slice_index_or l.crews k c).ended ≡ ended.Whole
