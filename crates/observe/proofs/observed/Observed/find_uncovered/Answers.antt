use Rattle.std.proofs.Common.{arith}
use Rattle.observe.proofs.Each.{each_all, each_none, number_more}
use Rattle.observe.proofs.observed.Observed.find_uncovered.Goals as goal

pub loop-of-init : goal.loop-of-init
loop-of-init c = each_none _ _ _

pub loop-of-preserved : goal.loop-of-preserved
loop-of-preserved c = number_more _ _ _ _ _ _ c.loop-of.invariant (omega (arith, c.loop-of-test.true, c.cluster_count-of-end.ensures)) c.in_ok-find_uncovered_of.ensures

pub returns : goal.returns
returns c = each_all _ _ _ _ _ c.loop-of.invariant (omega (arith, c.loop-of-test.false, c.cluster_count-of-end.ensures))
