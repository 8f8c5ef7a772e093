use Rattle.std.proofs.Common.{◌≡◌, ◌≤◌, ℕ, List, vec_len}
use Rattle.std.specs.Option.{option_or}
use Rattle.indexmap.specs.IndexMap.{spare}
use Rattle.topic_compaction.specs.Last.{index_in}
use Rattle.topic_compaction.proofs.compacted.note.Given as goal

abbrev pub invariant-loop-key : goal.invariant-loop-key
invariant-loop-key l = record {
  room : vec_len l.rows ≤ spare l.last;
  noted : (k : List ℕ) → option_or (index_in k l.rows.items) (index_in k l.last.entries) ≡ option_or (index_in k l.fn.rows.items) (index_in k l.fn.last.entries);
}

abbrev pub decreases-loop-key : goal.decreases-loop-key
decreases-loop-key l = vec_len l.rows
