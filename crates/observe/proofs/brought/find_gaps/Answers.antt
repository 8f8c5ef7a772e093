use Rattle.std.proofs.Common.{arith}
use Rattle.geo_base.proofs.Lists.{get_some_below}
use Rattle.observe.proofs.Walking.{gaps_all, gaps_begun, gaps_more}
use Rattle.observe.proofs.brought.find_gaps.Goals as goal

pub loop-index-init : goal.loop-index-init
loop-index-init c = gaps_begun _ _ _ _ _ _ _ _

pub loop-index-preserved : goal.loop-index-preserved
loop-index-preserved c =
    let f = get_some_below _ c.loop-index.index (omega (arith, c.loop-index-test.true, c.requires.end)) in
    gaps_more _ _ _ _ _ _ _ _ _ _ _ f.0 c.loop-index.invariant c.loop-index-test.true f.1 (c.in_ok-find_gap_at.ensures f.0 f.1)

pub returns : goal.returns
returns c = gaps_all _ _ _ _ _ _ _ _ _ _ c.loop-index.invariant c.loop-index-test.false
