use Rattle.std.proofs.Common.{◌≡◌, ◌≤◌, ℕ, List, drop, take}
use Rattle.topic_compaction.specs.Last.{index_in, last_from}
use Rattle.topic_compaction.proofs.compacted.rows_between.Given as goal

abbrev pub invariant-loop-index : goal.invariant-loop-index
invariant-loop-index g l = record {
  above : l.from ≤ l.index;
  below : l.index ≤ l.fn.to;
  rows : (k : List ℕ) → index_in k l.rows.items ≡ last_from k l.index (drop l.index (take l.fn.to (g.S.EntryStore.entries l.store)));
}

abbrev pub decreases-loop-index : goal.decreases-loop-index
decreases-loop-index g l = l.index
