-- Whose an event is, and which link it takes from.
use Rattle.std.specs.Prelude.{ℕ, length, Option, Some, None, ⊤}
use Rattle.geo_base.specs.declared.event.Event.{Event}
use Rattle.geo_base.specs.declared.event.Event.TheVariants as event
use Rattle.geo_base.specs.declared.packet.Packet.{Packet}
use Rattle.geo_base.specs.Plan.{Plan}
use Rattle.geo_base.specs.Planned.{broker_plan}
use Rattle.geo_base.specs.Setup.{Setup, declared_at}
use Rattle.geo_base.specs.World.{World, node, packet_at, topic_at}
use Rattle.links.specs.declared.name.LinkName.{LinkName}
use Rattle.links.specs.declared.name.LinkName.TheVariants as name
use Rattle.links.specs.declared.name.Node.{Node}
use Rattle.links.specs.declared.name.Node.TheVariants as wire_node
use Rattle.links.specs.Names.{taken_name}

abbrev pub IsBrokers : Event → Type 0
IsBrokers (event.Go c) = ⊥
IsBrokers (event.Get c) = ⊥
IsBrokers (event.Reconnect c) = ⊥
IsBrokers e = ⊤

-- the topic and the cluster of the broker; 0 for an event of a client, which has none
abbrev pub topic_of : Setup → Event → ℕ
topic_of s (event.Serve x c) = (declared_at s c).topic
topic_of s (event.Drop x c) = (declared_at s c).topic
topic_of s (event.Reset t x y) = t
topic_of s (event.Read t x y) = t
topic_of s (event.Take t x y f) = t
topic_of s (event.Receipt t x y f) = t
topic_of s (event.Snap t x) = t
topic_of s (event.Offer t x n) = t
topic_of s (event.Seek t x n to) = t
topic_of s (event.Restart t x) = t
topic_of s e = 0

abbrev pub cluster_of : Event → ℕ
cluster_of (event.Serve x c) = x
cluster_of (event.Drop x c) = x
cluster_of (event.Reset t x y) = x
cluster_of (event.Read t x y) = x
cluster_of (event.Take t x y f) = y
cluster_of (event.Receipt t x y f) = x
cluster_of (event.Snap t x) = x
cluster_of (event.Offer t x n) = x
cluster_of (event.Seek t x n to) = x
cluster_of (event.Restart t x) = x
cluster_of e = 0

abbrev pub takes_of : Event → Option LinkName
takes_of (event.Serve x c) = Some (name.ToBroker c x)
takes_of (event.Take t x y f) = Some (name.Forward t x y)
takes_of (event.Receipt t x y f) = Some (name.Back t x y)
takes_of e = None

-- the broker's number among all, and its name as one that sends
abbrev pub node_of : Setup → Event → ℕ
node_of s e = node s (topic_of s e) (cluster_of e)

abbrev pub sender_of : Setup → Event → Node
sender_of s e = wire_node.Broker (topic_of s e) (cluster_of e)

-- the packet of the machine that it takes, and the machine's plan of it there
abbrev pub taken_in : Setup → World → Event → Option Packet
taken_in s w e = packet_at w.links (taken_name (length s.clusters) (takes_of e))

abbrev pub plan_in : Setup → World → Event → Plan
plan_in s w e = broker_plan s (topic_at s w (topic_of s e) (cluster_of e)) e (taken_in s w e)
