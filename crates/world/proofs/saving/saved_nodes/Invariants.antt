use Rattle.std.proofs.Common.{◌≡◌, map, take}
use Rattle.std.specs.List.{All}
use Rattle.geo_base.specs.Broker.{Broker}
use Rattle.state_nodes.specs.Nodes.{broker_of}
use Rattle.state_nodes.specs.Writing.{HaveRests}
use Rattle.world.specs.Saving.{behind_stop}
use Rattle.world.specs.World.{brokers_of}
use Rattle.world.proofs.saving.saved_nodes.Given as goal

-- those so far
abbrev pub invariant-loop-node : goal.invariant-loop-node
invariant-loop-node l = record {
  are : map broker_of l.parts.items ≡ map behind_stop (brokers_of (take l.node-index l.brokers));
  rests : All (λ (b : Broker). HaveRests b.entries) (map broker_of l.parts.items);
}
