-- Nodes and links by their numbers, and what the machine calls them.
use Rattle.std.specs.Prelude.{ℕ, ◌+◌, ◌*◌, Option, Some, None}
use Rattle.geo_base.specs.declared.packet.Peer.{Peer}
use Rattle.geo_base.specs.declared.packet.Peer.TheVariants as peer
use Rattle.geo_base.specs.Setup.{Setup}
use Rattle.geo_base.specs.World.{LinkName as MachineLink, Forward, Back, ToBroker, ToClient, from_broker, from_client}
use Rattle.links.specs.declared.name.LinkName.{LinkName}
use Rattle.links.specs.declared.name.LinkName.TheVariants as name
use Rattle.links.specs.declared.name.Node.{Node}
use Rattle.links.specs.declared.name.Node.TheVariants as node

-- the link on which the broker of a topic at a cluster sends to a peer, a client, and a node
abbrev pub broker_sends_on : ℕ → ℕ → Peer → LinkName
broker_sends_on t x (peer.Forward y) = name.Forward t x y
broker_sends_on t x (peer.Broker y) = name.Forward t x y
broker_sends_on t x (peer.Back y) = name.Back t y x
broker_sends_on t x (peer.Client c) = name.ToClient c x

abbrev pub client_sends_on : ℕ → Peer → LinkName
client_sends_on c (peer.Forward x) = name.ToBroker c x
client_sends_on c (peer.Back x) = name.ToBroker c x
client_sends_on c (peer.Client x) = name.ToBroker c x
client_sends_on c (peer.Broker x) = name.ToBroker c x

abbrev pub sends_on : Node → Peer → LinkName
sends_on (node.Broker t x) to = broker_sends_on t x to
sends_on (node.Client c) to = client_sends_on c to

-- the machine's name of a link, where there are so many clusters: it numbers all brokers, those of a topic in a row
abbrev pub named : ℕ → LinkName → MachineLink
named clusters (name.Forward t x y) = Forward (t * clusters + x) y
named clusters (name.Back t x y) = Back (t * clusters + x) y
named clusters (name.ToBroker c x) = ToBroker c x
named clusters (name.ToClient c x) = ToClient c x

-- and of the link that an event takes from, if it takes from one
abbrev pub taken_name : ℕ → Option LinkName → Option MachineLink
taken_name clusters None = None
taken_name clusters (Some k) = Some (named clusters k)

-- the machine's links of a node by peers
abbrev pub machine_sends_on : Setup → Node → Peer → MachineLink
machine_sends_on s (node.Broker t x) = from_broker s t x
machine_sends_on s (node.Client c) = from_client c
