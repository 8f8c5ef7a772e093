use Rattle.std.proofs.Common.{◌≡◌, ◌-◌, ◌++◌}
use Rattle.std.specs.List.{range_with_len}
use Rattle.cursor_acks.specs.Acks.{AreBelow}
use Rattle.state_items.proofs.ranges.add_range.Given as goal

abbrev pub invariant-loop-index : goal.invariant-loop-index
invariant-loop-index l =
    (l.cursor.indexes ≡ l.initial.cursor.indexes ++ range_with_len l.fn.range.first (l.index - l.fn.range.first))
    × AreBelow l.index l.cursor.indexes
