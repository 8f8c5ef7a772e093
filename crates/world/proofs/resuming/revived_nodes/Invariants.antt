use Rattle.std.proofs.Common.{map}
use Rattle.state_nodes.specs.Nodes.{broker_of}
use Rattle.world.proofs.RevivedNodes.{IsOnTheWay}
use Rattle.world.proofs.resuming.revived_nodes.Given as goal

-- those that were made, and those that are left
abbrev pub invariant-loop-part : goal.invariant-loop-part
invariant-loop-part l = IsOnTheWay l.scenario.setup (map broker_of l.fn.parts.items) (map broker_of l.part-iterator.rest.items) l.brokers.items
