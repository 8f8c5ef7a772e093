-- The nodes of a setup, their peers, and the links between them. A node is what runs by itself: one topic at one cluster, that
-- is its broker, or one client (own: a broker of Pulsar serves many topics, but they share nothing that replication asks for).
use Rattle.std.specs.Prelude.{ℕ, ◌+◌, ◌*◌, ◌/◌, nat_lt, ◌==◌, Bool, false, not, ◌&&◌, length}
use Rattle.geo_base.specs.Types.{Event, Peer}
use Rattle.geo_base.specs.Types.event
use Rattle.geo_base.specs.Types.peer
use Rattle.geo_base.specs.Planned.{has_client, has_node, in_range}
use Rattle.geo_base.specs.Setup.{Setup, declared_at}
use Rattle.geo_base.specs.World.{Back, Forward, LinkName, ToBroker, ToClient, from_broker, from_client, node}

-- the broker of a topic at a cluster, or a client
pub data Node : Type 0 where
  BrokerNode : (topic cluster : ℕ) → Node
  ClientNode : (client : ℕ) → Node

abbrev pub broker_count : Setup → ℕ
broker_count s = length s.topics * length s.clusters

abbrev pub node_count : Setup → ℕ
node_count s = broker_count s + length s.clients

-- nodes in order: topics first and within a topic its clusters, then all clients (own: any fixed order would do)
abbrev pub node_number : Setup → Node → ℕ
node_number s (BrokerNode t x) = node s t x
node_number s (ClientNode c) = broker_count s + c

abbrev pub is_node : Setup → Node → Bool
is_node s (BrokerNode t x) = has_node s t x
is_node s (ClientNode c) = has_client s c

-- the node at which an event happens: what is taken happens at the target, its receipt at the source
abbrev pub node_of : Setup → Event → Node
node_of s (event.Go c) = ClientNode c
node_of s (event.Get c) = ClientNode c
node_of s (event.Reconnect c) = ClientNode c
node_of s (event.Serve x c) = BrokerNode (declared_at s c).topic x
node_of s (event.Drop x c) = BrokerNode (declared_at s c).topic x
node_of s (event.Reset t x y) = BrokerNode t x
node_of s (event.Read t x y) = BrokerNode t x
node_of s (event.Take t x y f) = BrokerNode t y
node_of s (event.Receipt t x y f) = BrokerNode t x
node_of s (event.Snap t x) = BrokerNode t x
node_of s (event.Offer t x n) = BrokerNode t x
node_of s (event.Seek t x n to) = BrokerNode t x
node_of s (event.Restart t x) = BrokerNode t x

-- an event of the setup: the numbers that it names are in range, and so its node is one of the setup
abbrev pub is_event : Setup → Event → Bool
is_event s e = in_range s e && is_node s (node_of s e)

-- the peers of a node, which are those that it shares links with: a broker's are the same topic's brokers at the other
-- clusters, as the targets that it replicates to (Forward) and as the sources that replicate to it (Back), and its topic's
-- clients; a client's are the brokers of its topic
abbrev pub is_peer : Setup → Node → Peer → Bool
is_peer s (BrokerNode t x) (peer.Forward y) = nat_lt y (length s.clusters) && not (y == x)
is_peer s (BrokerNode t x) (peer.Back y) = nat_lt y (length s.clusters) && not (y == x)
is_peer s (BrokerNode t x) (peer.Client c) = has_client s c && ((declared_at s c).topic == t)
is_peer s (BrokerNode t x) (peer.Broker y) = false
is_peer s (ClientNode c) (peer.Broker x) = has_node s (declared_at s c).topic x
is_peer s (ClientNode c) to = false

-- the link on which a node sends to a peer
abbrev pub link_to : Setup → Node → Peer → LinkName
link_to s (BrokerNode t x) to = from_broker s t x to
link_to s (ClientNode c) to = from_client c to

-- the link from which it takes what a peer sent. A broker has no peer Broker, and a client no other
abbrev pub link_from : Setup → Node → Peer → LinkName
link_from s (BrokerNode t x) (peer.Forward y) = Back (node s t x) y
link_from s (BrokerNode t x) (peer.Back y) = Forward (node s t y) x
link_from s (BrokerNode t x) (peer.Client c) = ToBroker c x
link_from s (BrokerNode t x) (peer.Broker y) = Back (node s t x) y
link_from s (ClientNode c) (peer.Broker x) = ToClient c x
link_from s (ClientNode c) (peer.Forward x) = ToClient c x
link_from s (ClientNode c) (peer.Back x) = ToClient c x
link_from s (ClientNode c) (peer.Client x) = ToClient c x

-- the broker of the same topic at another cluster, by number
abbrev pub beside : Setup → ℕ → ℕ → ℕ
beside s n y = node s (n / length s.clusters) y

-- the nodes at the two ends of a link, by number: the one that sends on it, and the one that takes from it
abbrev pub sender_of : Setup → LinkName → ℕ
sender_of s (Forward n y) = n
sender_of s (Back n y) = beside s n y
sender_of s (ToBroker c x) = broker_count s + c
sender_of s (ToClient c x) = node s (declared_at s c).topic x

abbrev pub taker_of : Setup → LinkName → ℕ
taker_of s (Forward n y) = beside s n y
taker_of s (Back n y) = n
taker_of s (ToBroker c x) = node s (declared_at s c).topic x
taker_of s (ToClient c x) = broker_count s + c

-- the links of a setup
abbrev pub has_link : Setup → LinkName → Bool
has_link s (Forward n y) = nat_lt n (broker_count s) && nat_lt y (length s.clusters)
has_link s (Back n y) = nat_lt n (broker_count s) && nat_lt y (length s.clusters)
has_link s (ToBroker c x) = has_client s c && has_node s (declared_at s c).topic x
has_link s (ToClient c x) = has_client s c && has_node s (declared_at s c).topic x

abbrev pub same_link : LinkName → LinkName → Bool
same_link (Forward n y) (Forward m z) = (n == m) && (y == z)
same_link (Back n y) (Back m z) = (n == m) && (y == z)
same_link (ToBroker n y) (ToBroker m z) = (n == m) && (y == z)
same_link (ToClient n y) (ToClient m z) = (n == m) && (y == z)
same_link k j = false
