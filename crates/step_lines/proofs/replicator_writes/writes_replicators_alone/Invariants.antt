use Rattle.std.proofs.Common.{◌≡◌, drop}
use Rattle.step_lines.specs.Resting.{are_of_replicators}
use Rattle.step_lines.proofs.replicator_writes.writes_replicators_alone.Given as goal

-- what is left says it of all
abbrev pub invariant-loop-number : goal.invariant-loop-number
invariant-loop-number l = are_of_replicators (drop l.number l.plan.writes) ≡ are_of_replicators l.plan.writes
