use Rattle.std.proofs.Common.{arith}
use Rattle.observe.proofs.Each.{each_all, each_none, number_more}
use Rattle.observe.proofs.observed.Observed.find_all.Goals as goal

pub loop-topic-init : goal.loop-topic-init
loop-topic-init c = each_none _ _ _

pub loop-topic-preserved : goal.loop-topic-preserved
loop-topic-preserved c = number_more _ _ _ _ _ _ c.loop-topic.invariant (omega (arith, c.loop-topic-test.true, c.topic_count-topic-end.ensures)) c.in_ok-find_in.ensures

pub returns : goal.returns
returns c = each_all _ _ _ _ _ c.loop-topic.invariant (omega (arith, c.loop-topic-test.false, c.topic_count-topic-end.ensures))
