use Rattle.std.proofs.Common.{◌≡◌, ◌++◌, List, drop, length}
use Rattle.broker.specs.Node.{BrokerView}
use Rattle.step_lines.specs.declared.heads.Indent.TheVariants as indent
use Rattle.step_lines.specs.Changes.{stood_lines}
use Rattle.step_lines.specs.Stops.{AreNoted, clusters_told}
use Rattle.step_lines.proofs.stops.add_topic.Given as goal

-- the lines so far and the rest make the whole
abbrev pub invariant-loop-cluster : goal.invariant-loop-cluster
invariant-loop-cluster l = (bs : List BrokerView) → AreNoted l.scenario.setup bs l.topic (length l.scenario.setup.clusters) l.noted
    → l.lines ++ stood_lines indent.Step (clusters_told l.scenario.setup bs l.world.brokers l.topic l.cluster (drop l.cluster l.scenario.setup.clusters))
    ≡ l.initial.lines ++ stood_lines indent.Step (clusters_told l.scenario.setup bs l.world.brokers l.topic 0 l.scenario.setup.clusters)
