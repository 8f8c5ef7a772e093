use Rattle.std.proofs.Common.{◌+◌, ◌*◌, length}
use Rattle.world.specs.Opening.{AreNew}
use Rattle.world.proofs.opening.add_nodes.Given as goal

-- the topics before, and the clusters so far
abbrev pub invariant-loop-cluster : goal.invariant-loop-cluster
invariant-loop-cluster l = AreNew l.scenario.setup (l.topic * length l.scenario.setup.clusters + l.cluster) l.brokers.items
