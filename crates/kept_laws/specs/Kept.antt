-- A world as it is kept: brokers, clients and counts as the machine has them, and on each link the bytes of what is not taken yet.
use Rattle.std.specs.Prelude.{ℕ, ◌+◌, ◌*◌, List, Option, length, map, max, replicate, slice_index, slice_set}
use Rattle.geo_base.specs.Broker.{Broker, new_broker}
use Rattle.geo_base.specs.Client.{Client, new_client}
use Rattle.geo_base.specs.Setup.{Setup}
use Rattle.links.specs.declared.name.LinkName.{LinkName}
use Rattle.links.specs.declared.name.Node.{Node}
use Rattle.geo_base.specs.declared.packet.WireOut.{WireOut}
use Rattle.links.specs.Queues.{WireLinks, all_discarded, bytes_of, delivered, empty_links, packet_on, stamp_of, taken_from}

-- brokers by topic and then by cluster; a clock is a node's last stamp; events are those that were not idle
pub record Kept : Type 0 where
  pub brokers : List Broker
  pub clients : List Client
  pub links : WireLinks
  pub broker_clocks : List ℕ
  pub client_clocks : List ℕ
  pub events : ℕ
  pub idle : ℕ
  pub rounds : ℕ
  pub frame_bytes : ℕ

abbrev pub opening_kept : Setup → Kept
opening_kept s =
    let clusters = length s.clusters in
    record {
      brokers = replicate (length s.topics * clusters) (new_broker clusters (length s.clients));
      clients = map new_client s.clients;
      links = empty_links (length s.topics) clusters (length s.clients);
      broker_clocks = replicate (length s.topics * clusters) 0;
      client_clocks = replicate (length s.clients) 0;
      events = 0;
      idle = 0;
      rounds = 0;
      frame_bytes = 0;
    }

-- the stamp of an event at the node of a clock, which takes from a link or from none
abbrev pub stamp_at : List ℕ → ℕ → WireLinks → Option LinkName → ℕ
stamp_at clocks n ls takes = 1 + max (slice_index clocks n) (stamp_of (packet_on ls takes))

abbrev pub idled : Kept → Kept
idled k = record k { idle = k.idle + 1 }

-- an event of broker n, as which it sends, which becomes b
abbrev pub broker_acted : Kept → ℕ → Node → Option LinkName → Broker → List WireOut → Kept
broker_acted k n from takes b os =
    let stamp = stamp_at k.broker_clocks n k.links takes in
    record {
      brokers = slice_set k.brokers n b;
      clients = k.clients;
      links = taken_from takes (delivered from stamp os k.links);
      broker_clocks = slice_set k.broker_clocks n stamp;
      client_clocks = k.client_clocks;
      events = k.events + 1;
      idle = k.idle;
      rounds = k.rounds;
      frame_bytes = k.frame_bytes + bytes_of os;
    }

-- a stop inside an event of broker n: its packet is taken, and nothing is sent
abbrev pub broker_stopped : Kept → ℕ → Option LinkName → Broker → Kept
broker_stopped k n takes b = record k { brokers = slice_set k.brokers n b; links = taken_from takes k.links; events = k.events + 1 }

-- an event of client c, as which it sends, which becomes m
abbrev pub client_acted : Kept → ℕ → Node → Option LinkName → Client → List WireOut → Kept
client_acted k c from takes m os =
    let stamp = stamp_at k.client_clocks c k.links takes in
    record {
      brokers = k.brokers;
      clients = slice_set k.clients c m;
      links = taken_from takes (delivered from stamp os k.links);
      broker_clocks = k.broker_clocks;
      client_clocks = slice_set k.client_clocks c stamp;
      events = k.events + 1;
      idle = k.idle;
      rounds = k.rounds;
      frame_bytes = k.frame_bytes + bytes_of os;
    }

-- a stop of everything, which leaves brokers and clients like these
abbrev pub all_stopped : Kept → List Broker → List Client → Kept
all_stopped k bs ms = record k { brokers = bs; clients = ms; links = all_discarded k.links; events = k.events + 1 }
