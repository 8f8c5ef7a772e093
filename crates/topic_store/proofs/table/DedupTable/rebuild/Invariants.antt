use Rattle.std.proofs.Common.{take}
use Rattle.topic_store.specs.Table.{Tells}
use Rattle.topic_store.proofs.table.DedupTable.rebuild.Given as goal

abbrev pub invariant-loop-i : goal.invariant-loop-i
invariant-loop-i g l = Tells l.table.rows (take l.i (g.S.EntryStore.entries l.store))
