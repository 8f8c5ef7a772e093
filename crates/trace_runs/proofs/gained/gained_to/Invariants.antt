use Rattle.std.proofs.Common.{◌≡◌, ◌+◌, ◌-◌, false}
use Rattle.geo_base.specs.Cursor.{below, has}
use Rattle.geo_base.specs.Traced.{gained}
use Rattle.trace_runs.proofs.Gains.{any, rest_gained}
use Rattle.trace_runs.proofs.gained.gained_to.Given as goal

abbrev pub invariant-loop-at : goal.invariant-loop-at
invariant-loop-at l = record {
  lacks : has l.cursor.indexes l.at ≡ false;
  rest : rest_gained any l.cursor.indexes l.gained.indexes l.at (l.index + 1) ≡ gained l.cursor.indexes (below (l.index + 1));
}

abbrev pub decreases-loop-at : goal.decreases-loop-at
decreases-loop-at l = l.index + 1 - l.at
