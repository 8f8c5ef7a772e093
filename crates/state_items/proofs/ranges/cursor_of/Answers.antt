use Rattle.state_items.specs.Ranges.{no_range}
use Rattle.state_items.proofs.Gaps.{behind_taken, taken_more}
use Rattle.state_items.proofs.ranges.cursor_of.Goals as goal

pub add_range-requires-clause-behind : goal.add_range-requires-clause-behind
add_range-requires-clause-behind c =
    behind_taken c.args.entries c.args.ranges.now c.loop-range.range-index no_range c.loop-range.cursor.indexes c.requires c.loop-range-test.true c.loop-range.invariant

pub loop-range-preserved : goal.loop-range-preserved
loop-range-preserved c =
    taken_more c.args.ranges.now c.loop-range.range-index no_range c.loop-range.cursor.indexes c.add_range.new.cursor.indexes c.loop-range-test.true c.loop-range.invariant c.in_ok-add_range.ensures
