use Rattle.std.proofs.Common.{◌≡◌, drop}
use Rattle.step_lines.specs.Resting.{are_apart}
use Rattle.step_lines.proofs.sub_names.are_apart.Given as goal

-- what is left says it of all
abbrev pub invariant-loop-place : goal.invariant-loop-place
invariant-loop-place l = are_apart (drop l.place l.broker.broker.subs) ≡ are_apart l.broker.broker.subs
