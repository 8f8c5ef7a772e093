use Rattle.std.proofs.Common.{ap, arith}
use Rattle.cursor_acks.specs.declared.range.IndexRange.{IndexRange}
use Rattle.cursor_acks.specs.Blocks.{flat}
use Rattle.cursor_acks.proofs.RangeIndexes.{begins_apart, begins_first, begins_with}
use Rattle.cursor_acks.proofs.list.RangeList.begin.Goals as goal

pub returns-in-None-clause-none : goal.returns-in-None-clause-none
returns-in-None-clause-none c =
    begins_first c.args.self.now.list c.args.index (flat c.args.self.now.blocks c.args.at) c.requires.kept c.requires.range_index c.requires.new c.in-None.ensures.none

pub overflow_add-range : goal.overflow_add-range
overflow_add-range c =
    let low = flat c.args.self.now.blocks c.in-Some.low in
    omega (arith, c.requires.range_index.before low c.in-Some-get.range (omega arith) (omega (arith, c.in-Some.ensures.some.1)), ap (λ (r : IndexRange). r.last) c.in-Some-get.ensures.some.1.1, c.ranges.index.fits)

pub returns-then-range-index-clause-some : goal.returns-then-range-index-clause-some
returns-then-range-index-clause-some c =
    let bs = c.args.self.now.blocks in
    let low = c.in-Some.ensures.some in (
      low.0,
      (
        low.1,
        begins_with c.args.self.now.list c.args.index (flat bs c.args.at) (flat bs c.in-Some.low) c.in-Some-get.range c.requires.kept c.requires.range_index low.1 c.in-Some-get.ensures.some.1.1 c.if-range-index.true,
      ),
    )

pub returns-else-range-index-clause-none : goal.returns-else-range-index-clause-none
returns-else-range-index-clause-none c =
    let bs = c.args.self.now.blocks in
    begins_apart c.args.self.now.list c.args.index (flat bs c.args.at) (flat bs c.in-Some.low) c.in-Some-get.range c.requires.kept c.requires.range_index c.requires.new c.in-Some.ensures.some.1 c.in-Some-get.ensures.some.1.1 c.if-range-index.false
