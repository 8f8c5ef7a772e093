use Rattle.std.proofs.Common.{◌≡◌, [], drop, filter}
use Rattle.geo_base.specs.Cursor.{with_indexes}
use Rattle.trace_runs.proofs.Gains.{is_new}
use Rattle.trace_runs.proofs.gained.gained_each.Given as goal

-- what is left, after what was gained so far, makes all of it
abbrev pub invariant-loop-index : goal.invariant-loop-index
invariant-loop-index l =
    with_indexes l.gained.indexes (filter (is_new l.cursor.indexes) (drop l.index-index l.indexes)) ≡ with_indexes [] (filter (is_new l.cursor.indexes) l.indexes)
