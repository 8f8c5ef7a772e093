use Rattle.step_lines.proofs.AllBrokers.{next_topic}
use Rattle.step_lines.proofs.stops.noted_topics.Goals as goal

pub loop-topic-preserved : goal.loop-topic-preserved
loop-topic-preserved c =
    next_topic c.args.scenario.now.setup c.args.world.now.brokers c.loop-topic.topic c.loop-topic.topics.items _ _ c.in_ok-push.ensures.items c.in_ok-noted_topic.ensures c.loop-topic.invariant
