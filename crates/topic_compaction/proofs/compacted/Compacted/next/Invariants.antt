use Rattle.std.proofs.Common.{◌≡◌, ◌≤◌, ◌<◌, ℕ, false}
use Rattle.topic_compaction.specs.View.{is_shown}
use Rattle.topic_compaction.proofs.compacted.Compacted.next.Given as goal

abbrev pub invariant-loop-index : goal.invariant-loop-index
invariant-loop-index g l = (j : ℕ) → l.fn.from ≤ j → j < l.index → is_shown l.self.horizon (g.S.EntryStore.entries l.store) j ≡ false
