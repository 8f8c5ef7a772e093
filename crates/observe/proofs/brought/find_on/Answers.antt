use Rattle.std.proofs.Common.{ap, arith}
use Rattle.std.specs.Prelude.{length}
use Rattle.geo_base.proofs.Lists.{get_some_below}
use Rattle.observe.proofs.Walking.{brought_all, brought_begun, brought_more}
use Rattle.observe.proofs.brought.find_on.Goals as goal

pub loop-index-init : goal.loop-index-init
loop-index-init c = brought_begun _ _ _ _ _ _

pub loop-index-preserved : goal.loop-index-preserved
loop-index-preserved c =
    let size = ap length c.entries-entries.ensures in
    let e = get_some_below _ c.loop-index.index (omega (arith, c.loop-index-test.true, size)) in
    brought_more _ _ _ _ _ _ _ _ _ _ _ e.0 c.loop-index.invariant e.1 (c.in_ok-from.ensures.found e.0 e.1) (c.in_ok-from.ensures.from e.0 e.1)

pub returns : goal.returns
returns c =
    let size = ap length c.entries-entries.ensures in
    brought_all _ _ _ _ _ _ _ _ _ c.loop-index.invariant (omega (arith, c.loop-index-test.false, size))
