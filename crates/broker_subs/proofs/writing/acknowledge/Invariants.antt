use Rattle.std.proofs.Common.{◌≡◌, ◌≤◌, ◌+◌, length, drop}
use Rattle.geo_base.specs.Cursor.{with_indexes}
use Rattle.broker_subs.proofs.writing.acknowledge.Given as goal

-- acknowledging what is left is acknowledging all from the start
abbrev pub invariant-loop-index : goal.invariant-loop-index
invariant-loop-index l = record {
  rest : with_indexes l.cursor.indexes (drop l.index-index l.indexes) ≡ with_indexes l.fn.cursor.indexes l.indexes;
  room : length (drop l.index-index l.indexes) ≤ l.cursor.spare;
  spare : l.fn.cursor.spare + length (drop l.index-index l.indexes) ≤ l.cursor.spare + length l.indexes;
}
