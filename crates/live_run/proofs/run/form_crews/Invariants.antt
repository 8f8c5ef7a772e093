use Rattle.std.proofs.Common.{◌≡◌, length}
use Rattle.live_run.specs.Crews.{crews_below, members_in}
use Rattle.live_run.proofs.run.form_crews.Given as goal

-- those of the workers so far
abbrev pub invariant-loop-worker : goal.invariant-loop-worker
invariant-loop-worker l = (length l.crews.items ≡ l.worker) × (members_in l.crews.items ≡ crews_below l.scenario l.workers l.worker)
