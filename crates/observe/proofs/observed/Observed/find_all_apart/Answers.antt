use Rattle.std.proofs.Common.{arith}
use Rattle.observe.proofs.Each.{each_all, each_none, number_more}
use Rattle.observe.proofs.observed.Observed.find_all_apart.Goals as goal

pub loop-cluster-init : goal.loop-cluster-init
loop-cluster-init c = each_none _ _ _

pub loop-cluster-preserved : goal.loop-cluster-preserved
loop-cluster-preserved c = number_more _ _ _ _ _ _ c.loop-cluster.invariant (omega (arith, c.loop-cluster-test.true, c.cluster_count-cluster-end.ensures)) c.in_ok-find_apart_from.ensures

pub returns : goal.returns
returns c = each_all _ _ _ _ _ c.loop-cluster.invariant (omega (arith, c.loop-cluster-test.false, c.cluster_count-cluster-end.ensures))
