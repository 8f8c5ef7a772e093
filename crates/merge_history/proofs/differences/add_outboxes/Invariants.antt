use Rattle.std.proofs.Common.{◌≡◌, length, take}
use Rattle.merge_history.specs.Walks.{AreOutboxes}
use Rattle.merge_history.proofs.differences.add_outboxes.Given as goal

abbrev pub invariant-loop-history : goal.invariant-loop-history
invariant-loop-history l = (length l.outboxes.items ≡ l.history-index) × AreOutboxes (take l.history-index l.histories) l.outboxes.items
