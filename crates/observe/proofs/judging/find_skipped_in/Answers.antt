use Rattle.std.proofs.Common.{arith}
use Rattle.observe.proofs.Each.{each_all, each_none, number_more}
use Rattle.observe.proofs.judging.find_skipped_in.Goals as goal

pub loop-cluster-init : goal.loop-cluster-init
loop-cluster-init c = each_none _ _ _

pub loop-cluster-preserved : goal.loop-cluster-preserved
loop-cluster-preserved c = number_more _ _ _ _ _ _ c.loop-cluster.invariant (omega (arith, c.loop-cluster-test.true, c.clusters-cluster-end.ensures)) c.in_ok-find_skipped.ensures

pub returns : goal.returns
returns c = each_all _ _ _ _ _ c.loop-cluster.invariant (omega (arith, c.loop-cluster-test.false, c.clusters-cluster-end.ensures))
