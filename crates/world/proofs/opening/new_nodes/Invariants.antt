use Rattle.std.proofs.Common.{◌*◌, length}
use Rattle.world.specs.Opening.{AreNew}
use Rattle.world.proofs.opening.new_nodes.Given as goal

-- the topics so far
abbrev pub invariant-loop-topic : goal.invariant-loop-topic
invariant-loop-topic l = AreNew l.scenario.setup (l.topic * length l.scenario.setup.clusters) l.brokers.items
