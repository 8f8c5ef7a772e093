use Rattle.std.proofs.Common.{◌≡◌, ◌+◌, ◌-◌, false}
use Rattle.geo_base.specs.Cursor.{has, with_indexes}
use Rattle.step_lines.specs.Counting.{open_messages, passed, passes}
use Rattle.step_lines.proofs.OpenMessages.{walk_messages}
use Rattle.step_lines.proofs.acked.without_passed.Given as goal

-- what is left, without what is still to come, is what is left in the end
abbrev pub invariant-loop-at : goal.invariant-loop-at
invariant-loop-at l = record {
  lacks : has l.cursor.indexes l.at ≡ false;
  rest : l.left
      ≡ open_messages l.store.entries (with_indexes l.cursor.indexes (passed l.from l.store.entries (l.index + 1)))
      + walk_messages l.store.entries (passes l.from l.store.entries) l.cursor.indexes l.at (l.index + 1 - l.at);
}

abbrev pub decreases-loop-at : goal.decreases-loop-at
decreases-loop-at l = l.index + 1 - l.at
