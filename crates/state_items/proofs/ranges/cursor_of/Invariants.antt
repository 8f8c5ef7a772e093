use Rattle.std.proofs.Common.{◌≡◌, take}
use Rattle.cursor_acks.specs.Ranges.{indexes_of}
use Rattle.state_items.proofs.ranges.cursor_of.Given as goal

abbrev pub invariant-loop-range : goal.invariant-loop-range
invariant-loop-range l = l.cursor.indexes ≡ indexes_of (take l.range-index l.ranges)
