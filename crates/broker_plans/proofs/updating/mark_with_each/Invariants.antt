use Rattle.std.proofs.Common.{◌≡◌, drop}
use Rattle.geo_base.specs.Cursor.{with_indexes}
use Rattle.broker_plans.proofs.updating.mark_with_each.Given as goal

-- acknowledging what is left is acknowledging all from the start
abbrev pub invariant-loop-index : goal.invariant-loop-index
invariant-loop-index g l = with_indexes l.with.indexes (drop l.index-index l.indexes) ≡ with_indexes l.cursor.indexes l.indexes
