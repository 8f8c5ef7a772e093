use Rattle.std.proofs.Common.{◌≡◌, ◌++◌}
use Rattle.trace_runs.specs.SnapshotTables.{positions_key, snapshot_key}
use Rattle.trace_runs.proofs.snapshot_key.SnapshotKey.of.Given as goal

-- the numbers so far and those for the clusters that are left make the key
abbrev pub invariant-loop-left : goal.invariant-loop-left
invariant-loop-left l = l.numbers.items ++ positions_key l.left l.remote ≡ snapshot_key l.own l.clusters l.remote

abbrev pub decreases-loop-left : goal.decreases-loop-left
decreases-loop-left l = l.left
