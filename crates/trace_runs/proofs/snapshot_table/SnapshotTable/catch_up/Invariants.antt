use Rattle.std.proofs.Common.{◌≡◌}
use Rattle.trace_runs.specs.SnapshotTables.{TellsBeginning}
use Rattle.trace_runs.proofs.snapshot_table.SnapshotTable.catch_up.Given as goal

-- all before the next entry were seen
abbrev pub invariant-loop-index : goal.invariant-loop-index
invariant-loop-index g l = record {
  seen : l.index ≡ l.self.seen;
  known : TellsBeginning l.clusters l.self (g.S.EntryStore.entries l.store);
}
