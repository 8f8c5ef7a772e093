use Rattle.std.proofs.Common.{◌≡◌, ℕ, ◌+◌, ◌-◌, length}
use Rattle.trace_runs.specs.SnapshotTables.{table_at}
use Rattle.trace_runs.proofs.snapshot_tables.SnapshotTables.reach.Given as goal

-- a table more has seen nothing, as before it was there
abbrev pub invariant-loop-alloc : goal.invariant-loop-alloc
invariant-loop-alloc l = (k : ℕ) → table_at l.self-inside.tables.items k ≡ table_at l.fn.self k

abbrev pub decreases-loop-alloc : goal.decreases-loop-alloc
decreases-loop-alloc l = l.broker + 1 - length l.self-inside.tables.items
