-- One event of the world, and the two steps that concern more: a halt and a stop.
use Rattle.std.specs.Prelude.{ℕ, ◌+◌, max, if◌then◌else◌, List, map, Option, Some, None, slice_set, slice_index}
use Rattle.geo_base.specs.Types.{Event, Packet}
use Rattle.geo_base.specs.Types.event
use Rattle.geo_base.specs.Broker.{Broker}
use Rattle.geo_base.specs.Client.{Acted, Client, reconnect, stays, unconnected}
use Rattle.geo_base.specs.FrameSizes.{sent_bytes}
use Rattle.geo_base.specs.Getting.{get}
use Rattle.geo_base.specs.Going.{go}
use Rattle.geo_base.specs.Link.{Link, discarded, next_packet}
use Rattle.geo_base.specs.Plan.{done, halted}
use Rattle.geo_base.specs.Planned.{Planned, has_client, planned}
use Rattle.geo_base.specs.Seeking.{restart}
use Rattle.geo_base.specs.Setup.{Setup, declared_at}
use Rattle.geo_base.specs.World.{LinkName, ToClient, World, broker_at, client_at, delivered, from_broker, from_client, link_at, node, packet_at, taken_from}

abbrev pub stamp_of : Option Packet → ℕ
stamp_of None = 0
stamp_of (Some packet) = packet.stamp

-- an event's stamp: 1 plus the greater of its node's last one and that of the packet that it takes (own)
abbrev pub next_stamp : ℕ → Option Packet → ℕ
next_stamp clock packet = 1 + max clock (stamp_of packet)

abbrev pub idles : World → World
idles w = record w { idle = w.idle + 1 }

-- an event of a broker: its state, the links that it sends on and takes from, its stamp, and the counts; nothing else
unfoldable pub broker_does : Setup → World → Planned → World
broker_does s w p =
    if p.plan.idle then idles w
    else
    let n = node s p.topic p.cluster in
    let stamp = next_stamp (slice_index w.broker_clocks n) (packet_at w.links p.takes) in
    record {
      brokers = slice_set w.brokers n (done s.per_ledger (broker_at w n) p.plan);
      clients = w.clients;
      links = taken_from p.takes (delivered (from_broker s p.topic p.cluster) stamp p.plan.sent w.links);
      broker_clocks = slice_set w.broker_clocks n stamp;
      client_clocks = w.client_clocks;
      events = w.events + 1;
      idle = w.idle;
      rounds = w.rounds;
      frame_bytes = w.frame_bytes + sent_bytes s.clusters p.plan.sent;
    }

-- what an event does at its client, which is k, with the packet that it takes; an event of a broker does nothing there
abbrev pub client_acted : Setup → Client → Event → Option Packet → Acted
client_acted s k (event.Go c) p = go s (declared_at s c) k
client_acted s k (event.Reconnect c) p = reconnect s (declared_at s c) k
client_acted s k (event.Get c) p = get (declared_at s c) k p
client_acted s k e p = stays k

-- an event of a client
unfoldable pub client_does : Setup → World → ℕ → Option LinkName → Acted → World
client_does s w c takes a =
    if a.idle then idles w
    else
    let stamp = next_stamp (slice_index w.client_clocks c) (packet_at w.links takes) in
    record {
      brokers = w.brokers;
      clients = slice_set w.clients c a.client;
      links = delivered (from_client c) stamp a.sent (taken_from takes w.links);
      broker_clocks = w.broker_clocks;
      client_clocks = slice_set w.client_clocks c stamp;
      events = w.events + 1;
      idle = w.idle;
      rounds = w.rounds;
      frame_bytes = w.frame_bytes + sent_bytes s.clusters a.sent;
    }

abbrev pub does_planned : Setup → World → Option Planned → World
does_planned s w None = idles w
does_planned s w (Some p) = broker_does s w p

-- an event: idle where it is not enabled, or a number in it is out of range
unfoldable pub happens : Setup → World → Event → World
happens s w (event.Go c) = if has_client s c then client_does s w c None (client_acted s (client_at s w c) (event.Go c) None) else idles w
happens s w (event.Reconnect c) = if has_client s c then client_does s w c None (client_acted s (client_at s w c) (event.Reconnect c) None) else idles w
happens s w (event.Get c) =
    let link = ToClient c (client_at s w c).cluster in
    if has_client s c then client_does s w c (Some link) (client_acted s (client_at s w c) (event.Get c) (next_packet (link_at w.links link))) else idles w
happens s w e = does_planned s w (planned s w e)

-- a stop after the first k durable writes of an event: its packet is taken, nothing is sent, the node starts again. It is
-- never idle (own)
unfoldable pub broker_halts : Setup → World → ℕ → Planned → World
broker_halts s w k p =
    let n = node s p.topic p.cluster in
    record w {
      brokers = slice_set w.brokers n (halted s.per_ledger (broker_at w n) k p.plan);
      links = taken_from p.takes w.links;
      events = w.events + 1;
    }

abbrev pub halts_planned : Setup → World → ℕ → Option Planned → World
halts_planned s w k None = idles w
halts_planned s w k (Some p) = broker_halts s w k p

abbrev pub all_discarded : List (List Link) → List (List Link)
all_discarded m = map (λ (ls : List Link). map discarded ls) m

-- a stop of everything: every broker starts again, every untaken packet is discarded, every client is unconnected; one event
unfoldable pub stops : Setup → World → World
stops s w = record w {
  brokers = map (λ (b : Broker). done s.per_ledger b restart) w.brokers;
  clients = map unconnected w.clients;
  links = record {
    forward = all_discarded w.links.forward;
    back = all_discarded w.links.back;
    to_broker = all_discarded w.links.to_broker;
    to_client = all_discarded w.links.to_client;
  };
  events = w.events + 1;
}
