use Rattle.step_lines.specs.Noted.{AreReplicators}
use Rattle.step_lines.proofs.noted.note_replicators.Given as goal

-- the replicators so far
abbrev pub invariant-loop-remote : goal.invariant-loop-remote
invariant-loop-remote l = AreReplicators l.remote l.broker.broker l.replicators.items
