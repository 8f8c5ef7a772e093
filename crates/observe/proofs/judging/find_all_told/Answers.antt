use Rattle.std.proofs.Common.{◌≡◌, ◌++◌, arith, subst}
use Rattle.observation.specs.Findings.{by_cluster, told}
use Rattle.observe.specs.Dealt.{LogsOf}
use Rattle.observe.proofs.Each.{each_all, each_none, number_more}
use Rattle.observe.proofs.judging.find_all_told.Goals as goal

pub loop-topic-init : goal.loop-topic-init
loop-topic-init c = each_none _ _ _

pub loop-topic-preserved : goal.loop-topic-preserved
loop-topic-preserved c = number_more _ _ _ _ _ _ c.loop-topic.invariant (omega (arith, c.loop-topic-test.true, c.topic_count-topic-end.ensures)) (subst (λ (q : LogsOf). c.find_told_in.new.found.items ≡ c.loop-topic.found.items ++ by_cluster q.setup (told q.setup q.observed q.topic)) c.in_ok-logs.ensures c.in_ok-find_told_in.ensures)

pub returns : goal.returns
returns c = each_all _ _ _ _ _ c.loop-topic.invariant (omega (arith, c.loop-topic-test.false, c.topic_count-topic-end.ensures))
