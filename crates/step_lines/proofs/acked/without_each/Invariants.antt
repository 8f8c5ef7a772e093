use Rattle.std.proofs.Common.{◌≡◌, [], true, false}
use Rattle.std.specs.Prelude.{if◌then◌else◌}
use Rattle.step_lines.specs.Counting.{ascend, open_messages}
use Rattle.step_lines.proofs.OpenMessages.{with_first}
use Rattle.step_lines.proofs.acked.without_each.Given as goal

-- what is left after the first of them, which are kept where one may be named again
abbrev pub invariant-loop-index : goal.invariant-loop-index
invariant-loop-index l = record {
  left : l.left ≡ open_messages l.store.entries (with_first l.cursor.indexes l.indexes l.index-index);
  acked : l.acked.indexes ≡ with_first [] l.indexes (if l.may_repeat then l.index-index else 0);
  ascend : l.may_repeat ≡ false → ascend 0 l.indexes ≡ true;
}
