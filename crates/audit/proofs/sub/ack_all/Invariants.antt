use Rattle.std.proofs.Common.{◌≡◌, take}
use Rattle.cursor_acks.specs.Ranges.{indexes_of}
use Rattle.geo_base.specs.Cursor.{with_indexes}
use Rattle.audit.proofs.sub.ack_all.Given as goal

abbrev pub invariant-loop-range : goal.invariant-loop-range
invariant-loop-range l = l.cursor.indexes ≡ with_indexes l.initial.cursor.indexes (indexes_of (take l.range-index l.ranges))
