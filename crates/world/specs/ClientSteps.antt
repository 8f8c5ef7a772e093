-- How an event of a client leaves the world.
use Rattle.std.specs.Prelude.{◌≡◌, ℕ, ◌+◌, Bool, true, false, not, List, Option, Some, None, Result, Err, OnOk, is_some, slice_index_or, slice_set}
use Rattle.client.specs.Changing.{client_after}
use Rattle.client.specs.Prepared.{PreparedClient}
use Rattle.geo_base.specs.Client.{Client, new_client}
use Rattle.geo_base.specs.declared.packet.Packet.{Packet}
use Rattle.geo_base.specs.Getting.{get}
use Rattle.geo_base.specs.Setup.{Declared, nobody}
use Rattle.world.specs.Steps.{stamp_over}
use Rattle.world.specs.World.{WorldView, kept_of}
use Rattle.links.specs.declared.name.Node.TheVariants as wire_node
use Rattle.links.specs.declared.port.Port.{Port}
use Rattle.links.specs.Each.{Both}
use Rattle.links.specs.Queues.{bytes_of, packet_in, stamp_of, taken_in}
use Rattle.wire_ends.specs.declared.packet.WirePacket.{WirePacket}
use Rattle.kept_laws.specs.Kept.{client_acted}
use Rattle.kept_laws.specs.Standing.{limit_of}
use Rattle.world.specs.declared.fault.RunFault.{RunFault}
use Rattle.world.specs.declared.fault.RunFault.TheVariants as fault
use Rattle.frame_laws.specs.BytePackets.{StandsForPacket}

abbrev pub no_client : Client
no_client = new_client nobody

abbrev pub client_in : List Client → ℕ → Client
client_in ms c = slice_index_or ms c no_client

-- what was prepared at client c is done, and its packets are on their links
pub record IsSent (c : ℕ) (p : PreparedClient) (old new : WorldView) : Type 0 where
  pub kept : kept_of new ≡ client_acted (kept_of old) c (wire_node.Client c) None (client_after p.change (client_in old.clients c)) p.sent
  pub brokers : new.brokers ≡ old.brokers

-- Whatever was prepared at client c: what is idle is counted, and anything else is sent and done. A limit that it would pass is the answer.
pub data ClientDone (c : ℕ) (p : PreparedClient) (old new : WorldView) (r : Result (Unit {0}) RunFault) : Type 0 where
  Rests : not (is_some p.change) ≡ true → OnOk r (new ≡ record old { idle = old.idle + 1 }) → OnOk r (limit_of old.events (old.idle + 1) old.frame_bytes ≡ None) → ((i : ℕ) → r ≡ Err (fault.TooLarge i) → limit_of old.events (old.idle + 1) old.frame_bytes ≡ Some i) → ClientDone c p old new r
  Sends : not (is_some p.change) ≡ false → OnOk r (IsSent c p old new) → OnOk r (limit_of (old.events + 1) old.idle (old.frame_bytes + bytes_of p.sent) ≡ None) → ((i : ℕ) → r ≡ Err (fault.TooLarge i) → limit_of (old.events + 1) old.idle (old.frame_bytes + bytes_of p.sent) ≡ Some i) → ClientDone c p old new r

-- client c did what the next packet of a link says, which still is there; whatever the packet stands for, it is the machine's get.
-- took says whether there was one
pub record IsGot (names : List (List ℕ)) (d : Declared) (c : ℕ) (next : Option WirePacket) (old new : WorldView) (took : Bool) : Type 0 where
  pub client : (v : Option Packet) → Both (StandsForPacket names) next v → new.clients ≡ slice_set old.clients c (get d (client_in old.clients c) v).client
  pub idle : (v : Option Packet) → Both (StandsForPacket names) next v → not took ≡ (get d (client_in old.clients c) v).idle
  pub rest : new ≡ record old { clients = new.clients }

-- and then the packet is taken, and the event counted, or the idle one
abbrev pub after_got : ℕ → Port → Bool → WorldView → WorldView
after_got c takes true b = record b {
  links = taken_in takes b.links;
  client_clocks = slice_set b.client_clocks c (stamp_over b.client_clocks c (stamp_of (packet_in b.links takes)));
  events = b.events + 1;
}
after_got c takes false b = record b { idle = b.idle + 1 }
