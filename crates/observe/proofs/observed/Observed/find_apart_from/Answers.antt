use Rattle.std.proofs.Common.{arith}
use Rattle.observe.proofs.Each.{each_all, each_none, number_more}
use Rattle.observe.proofs.observed.Observed.find_apart_from.Goals as goal

pub loop-other-init : goal.loop-other-init
loop-other-init c = each_none _ _ _

pub loop-other-preserved : goal.loop-other-preserved
loop-other-preserved c = number_more _ _ _ _ _ _ c.loop-other.invariant (omega (arith, c.loop-other-test.true, c.cluster_count-other-end.ensures)) c.in_ok-find_apart.ensures

pub returns : goal.returns
returns c = each_all _ _ _ _ _ c.loop-other.invariant (omega (arith, c.loop-other-test.false, c.cluster_count-other-end.ensures))
