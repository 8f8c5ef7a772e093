use Rattle.std.proofs.Common.{◌≡◌}
use Rattle.step_lines.specs.Resting.{has_from}
use Rattle.step_lines.proofs.sub_names.has_sub_from.Given as goal

-- what is left has what all have
abbrev pub invariant-loop-place : goal.invariant-loop-place
invariant-loop-place l = has_from l.name l.place l.broker.broker.subs ≡ has_from l.name l.first l.broker.broker.subs
