use Rattle.std.proofs.Common.{arith}
use Rattle.observe.proofs.Each.{each_all, each_none, number_more}
use Rattle.observe.proofs.observed.Observed.find_all_unreceived.Goals as goal

pub loop-to-init : goal.loop-to-init
loop-to-init c = each_none _ _ _

pub loop-to-preserved : goal.loop-to-preserved
loop-to-preserved c = number_more _ _ _ _ _ _ c.loop-to.invariant (omega (arith, c.loop-to-test.true, c.cluster_count-to-end.ensures)) c.in_ok-find_unreceived.ensures

pub returns : goal.returns
returns c = each_all _ _ _ _ _ c.loop-to.invariant (omega (arith, c.loop-to-test.false, c.cluster_count-to-end.ensures))
