use Rattle.step_lines.specs.Stops.{AreNotedTopics}
use Rattle.step_lines.proofs.stops.noted_topics.Given as goal

-- the topics so far
abbrev pub invariant-loop-topic : goal.invariant-loop-topic
invariant-loop-topic l = AreNotedTopics l.scenario.setup l.world.brokers l.topic l.topics.items
