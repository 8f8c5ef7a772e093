use Rattle.std.proofs.Common.{ap, arith}
use Rattle.std.specs.Prelude.{length}
use Rattle.observation.specs.Findings.{lost}
use Rattle.observe.proofs.Each.{each_all, each_more, each_none, item_at}
use Rattle.observe.proofs.observed.Observed.find_lost.Goals as goal

pub loop-said-init : goal.loop-said-init
loop-said-init c = each_none _ _ _

pub loop-said-preserved : goal.loop-said-preserved
loop-said-preserved c =
    each_more _ _ _ _ _ _ c.said-item.result c.loop-said.invariant (item_at _ _ c.loop-said.said-index c.said-item.result c.said-lines.ensures c.loop-said-test.true c.said-item.is) c.in_ok-find_lost_of.ensures

pub returns : goal.returns
unfolding lost
returns c =
    let size = ap length c.said-lines.ensures in
    each_all _ _ _ _ _ c.loop-said.invariant (omega (arith, c.loop-said-test.false, size))
