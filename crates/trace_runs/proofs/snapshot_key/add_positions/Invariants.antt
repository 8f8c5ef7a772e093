use Rattle.std.proofs.Common.{◌≡◌, ◌++◌, drop}
use Rattle.geo_base.specs.Updating.{positions_for}
use Rattle.trace_runs.specs.SnapshotTables.{key_part}
use Rattle.trace_runs.proofs.snapshot_key.add_positions.Given as goal

-- the numbers so far and those for what is left make the whole
abbrev pub invariant-loop-named : goal.invariant-loop-named
invariant-loop-named l =
    l.numbers.items ++ key_part (positions_for l.cluster (drop l.named-index l.remote)) ≡ l.fn.numbers.items ++ key_part (positions_for l.cluster l.remote)
