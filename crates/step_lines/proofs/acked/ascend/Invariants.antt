use Rattle.std.proofs.Common.{◌≡◌, drop}
use Rattle.step_lines.specs.Counting.{ascend}
use Rattle.step_lines.proofs.acked.ascend.Given as goal

-- those that are left ascend from here where all do
abbrev pub invariant-loop-index : goal.invariant-loop-index
invariant-loop-index l = ascend l.low (drop l.index-index l.indexes) ≡ ascend 0 l.indexes
