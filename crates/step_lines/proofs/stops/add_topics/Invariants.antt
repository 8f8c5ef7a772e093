use Rattle.std.proofs.Common.{◌≡◌, ◌++◌, List, drop, length}
use Rattle.broker.specs.Node.{BrokerView}
use Rattle.step_lines.specs.declared.heads.Indent.TheVariants as indent
use Rattle.step_lines.specs.Changes.{stood_lines}
use Rattle.step_lines.specs.Stops.{AreNotedTopics, topics_told}
use Rattle.step_lines.proofs.stops.add_topics.Given as goal

-- the lines so far and the rest make the whole
abbrev pub invariant-loop-topic : goal.invariant-loop-topic
invariant-loop-topic l = (bs : List BrokerView) → AreNotedTopics l.scenario.setup bs (length l.scenario.setup.topics) l.noted
    → l.lines ++ stood_lines indent.Step (topics_told l.scenario.setup bs l.world.brokers l.topic (drop l.topic l.scenario.setup.topics))
    ≡ l.initial.lines ++ stood_lines indent.Step (topics_told l.scenario.setup bs l.world.brokers 0 l.scenario.setup.topics)
