use Rattle.cursor_acks.specs.Blocks.{flat}
use Rattle.cursor_acks.proofs.RangeIndexes.{ends_apart, ends_last, ends_with}
use Rattle.cursor_acks.proofs.list.RangeList.end.Goals as goal

pub returns-in-None-clause-none : goal.returns-in-None-clause-none
returns-in-None-clause-none c =
    ends_last c.args.self.now.list c.args.index (flat c.args.self.now.blocks c.args.at) c.requires.below c.requires.kept c.requires.range_index c.in-None.ensures.none

pub returns-then-range-index-clause-some : goal.returns-then-range-index-clause-some
returns-then-range-index-clause-some c =
    let here = c.in-Some.ensures.some in (
      here.0,
      ends_with c.args.self.now.list c.args.index (flat c.args.self.now.blocks c.args.at) c.in-Some.range c.requires.kept c.requires.range_index here.1.0 here.1.1 c.if-range-index.true,
    )

pub returns-else-range-index-clause-none : goal.returns-else-range-index-clause-none
returns-else-range-index-clause-none c =
    ends_apart c.args.self.now.list c.args.index (flat c.args.self.now.blocks c.args.at) c.in-Some.range c.requires.below c.requires.kept c.requires.range_index c.in-Some.ensures.some.1.1 c.if-range-index.false
