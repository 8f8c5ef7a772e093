-- The world: all nodes, all links, and the counts.
use Rattle.std.specs.Prelude.{ℕ, ◌+◌, ◌*◌, List, [], ◌∷◌, length, map, replicate, Option, Some, None, slice_set, slice_index_or}
use Rattle.geo_base.specs.Types.{Out, Packet, Peer}
use Rattle.geo_base.specs.Types.peer
use Rattle.geo_base.specs.Broker.{Broker, Site, new_broker, no_broker}
use Rattle.geo_base.specs.Client.{Client, new_client}
use Rattle.geo_base.specs.Link.{Link, next_packet, no_link, sent_on, took}
use Rattle.geo_base.specs.Setup.{Setup, declared_at, topic_name}

-- tables of links: forward and back by (node of the sending broker, other cluster), a client's by (client, cluster)
pub record Links : Type 0 where
  pub forward : List (List Link)
  pub back : List (List Link)
  pub to_broker : List (List Link)
  pub to_client : List (List Link)

-- brokers by node, with each node's last stamp in the clocks; events are those that were not idle
pub record World : Type 0 where
  pub brokers : List Broker
  pub clients : List Client
  pub links : Links
  pub broker_clocks : List ℕ
  pub client_clocks : List ℕ
  pub events : ℕ
  pub idle : ℕ
  pub rounds : ℕ
  pub frame_bytes : ℕ

-- a broker's number among all: its topic first, then its cluster
abbrev pub node : Setup → ℕ → ℕ → ℕ
node s t x = t * length s.clusters + x

abbrev pub site : Setup → ℕ → ℕ → Site
site s t x = record { own = x; clusters = s.clusters; topic = topic_name s t; per_ledger = s.per_ledger }

abbrev pub broker_at : World → ℕ → Broker
broker_at w n = slice_index_or w.brokers n no_broker

abbrev pub topic_at : Setup → World → ℕ → ℕ → Broker
topic_at s w t x = broker_at w (node s t x)

abbrev pub client_at : Setup → World → ℕ → Client
client_at s w c = slice_index_or w.clients c (new_client (declared_at s c))

-- a link by its table and its place there
pub data LinkName : Type 0 where
  Forward : (node target : ℕ) → LinkName
  Back : (node target : ℕ) → LinkName
  ToBroker : (client cluster : ℕ) → LinkName
  ToClient : (client cluster : ℕ) → LinkName

abbrev pub cell : List (List Link) → ℕ → ℕ → Link
cell m i j = slice_index_or (slice_index_or m i []) j no_link

abbrev pub with_cell : List (List Link) → ℕ → ℕ → Link → List (List Link)
with_cell m i j l = slice_set m i (slice_set (slice_index_or m i []) j l)

abbrev pub link_at : Links → LinkName → Link
link_at ls (Forward n y) = cell ls.forward n y
link_at ls (Back n y) = cell ls.back n y
link_at ls (ToBroker c x) = cell ls.to_broker c x
link_at ls (ToClient c x) = cell ls.to_client c x

abbrev pub with_link : Links → LinkName → Link → Links
with_link ls (Forward n y) l = record ls { forward = with_cell ls.forward n y l }
with_link ls (Back n y) l = record ls { back = with_cell ls.back n y l }
with_link ls (ToBroker c x) l = record ls { to_broker = with_cell ls.to_broker c x l }
with_link ls (ToClient c x) l = record ls { to_client = with_cell ls.to_client c x l }

-- the link that a packet of the broker of topic t at x goes to. A broker has no peer Broker: its links are told apart by client
abbrev pub from_broker : Setup → ℕ → ℕ → Peer → LinkName
from_broker s t x (peer.Forward y) = Forward (node s t x) y
from_broker s t x (peer.Back y) = Back (node s t y) x
from_broker s t x (peer.Client c) = ToClient c x
from_broker s t x (peer.Broker y) = Forward (node s t x) y

-- a client sends to brokers alone
abbrev pub from_client : ℕ → Peer → LinkName
from_client c (peer.Broker x) = ToBroker c x
from_client c (peer.Forward x) = ToBroker c x
from_client c (peer.Back x) = ToBroker c x
from_client c (peer.Client x) = ToBroker c x

abbrev pub stamped : ℕ → Out → Packet
stamped stamp o = record { session = o.session; stamp = stamp; frame = o.frame }

abbrev pub delivered : (Peer → LinkName) → ℕ → List Out → Links → Links
delivered to stamp [] ls = ls
delivered to stamp (o ∷ os) ls = delivered to stamp os (with_link ls (to o.to) (sent_on (link_at ls (to o.to)) (stamped stamp o)))

abbrev pub taken_from : Option LinkName → Links → Links
taken_from None ls = ls
taken_from (Some k) ls = with_link ls k (took (link_at ls k))

abbrev pub packet_at : Links → Option LinkName → Option Packet
packet_at ls None = None
packet_at ls (Some k) = next_packet (link_at ls k)

abbrev pub table : ℕ → ℕ → List (List Link)
table rows columns = replicate rows (replicate columns no_link)

-- empty topics, no session, no connection, empty links
abbrev pub opening_world : Setup → World
opening_world s =
    let clusters = length s.clusters in let nodes = length s.topics * clusters in let clients = length s.clients in
    record {
      brokers = replicate nodes (new_broker clusters clients);
      clients = map new_client s.clients;
      links = record { forward = table nodes clusters; back = table nodes clusters; to_broker = table clients clusters; to_client = table clients clusters };
      broker_clocks = replicate nodes 0;
      client_clocks = replicate clients 0;
      events = 0;
      idle = 0;
      rounds = 0;
      frame_bytes = 0;
    }
