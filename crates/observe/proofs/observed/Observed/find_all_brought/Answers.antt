use Rattle.std.proofs.Common.{arith}
use Rattle.observe.proofs.Each.{each_all, each_none, number_more}
use Rattle.observe.proofs.observed.Observed.find_all_brought.Goals as goal

pub loop-origin-init : goal.loop-origin-init
loop-origin-init c = each_none _ _ _

pub loop-origin-preserved : goal.loop-origin-preserved
loop-origin-preserved c = number_more _ _ _ _ _ _ c.loop-origin.invariant (omega (arith, c.loop-origin-test.true, c.cluster_count-origin-end.ensures)) c.in_ok-find_brought.ensures

pub returns : goal.returns
returns c = each_all _ _ _ _ _ c.loop-origin.invariant (omega (arith, c.loop-origin-test.false, c.cluster_count-origin-end.ensures))
