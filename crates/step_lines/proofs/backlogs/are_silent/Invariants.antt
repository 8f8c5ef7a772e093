use Rattle.std.proofs.Common.{◌≡◌, drop}
use Rattle.step_lines.specs.Backlogs.{are_silent}
use Rattle.step_lines.proofs.backlogs.are_silent.Given as goal

-- what is left is as all are
abbrev pub invariant-loop-number : goal.invariant-loop-number
invariant-loop-number l = are_silent (drop l.number l.plan.writes) ≡ are_silent (drop l.first l.plan.writes)
