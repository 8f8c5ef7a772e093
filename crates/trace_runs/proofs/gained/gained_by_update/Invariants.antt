use Rattle.std.proofs.Common.{◌≡◌, ◌+◌, ◌-◌, false}
use Rattle.geo_base.specs.Cursor.{has}
use Rattle.geo_base.specs.Traced.{gained}
use Rattle.geo_base.specs.Updating.{updated_indexes}
use Rattle.replicated_subs.proofs.Walk.{is_passed}
use Rattle.trace_runs.proofs.Gains.{rest_gained}
use Rattle.trace_runs.proofs.gained.gained_by_update.Given as goal

abbrev pub invariant-loop-at : goal.invariant-loop-at
invariant-loop-at g l = record {
  lacks : has l.cursor.indexes l.at ≡ false;
  rest : rest_gained (is_passed l.from (g.S.EntryStore.entries l.store)) l.cursor.indexes l.gained.indexes l.at (l.index + 1)
      ≡ gained l.cursor.indexes (updated_indexes l.from 0 (l.index + 1) (g.S.EntryStore.entries l.store));
}

abbrev pub decreases-loop-at : goal.decreases-loop-at
decreases-loop-at g l = l.index + 1 - l.at
