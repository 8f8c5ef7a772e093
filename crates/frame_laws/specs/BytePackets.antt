-- Packets whose frames are bytes, and what they stand for.
use Rattle.std.specs.Prelude.{◌≡◌, ℕ, List}
use Rattle.geo_base.specs.declared.packet.Packet.{Packet}
use Rattle.frame_values.specs.Standing.{StandFor, bare}
use Rattle.wire_ends.specs.declared.packet.WirePacket.{WirePacket}

-- a packet as it is on a link stands for one of the machine: the same session and stamp, and the bytes stand for the frame,
-- whichever cluster that says stored its entry first; names are those of the clusters, by their numbers
pub record StandsForPacket (names : List (List ℕ)) (b : WirePacket) (p : Packet) : Type 0 where
  pub session : p.session ≡ b.session
  pub stamp : p.stamp ≡ b.stamp
  pub frame : StandFor names b.frame p.frame

-- a packet as its bytes say it: they do not say which cluster stored an entry first
abbrev pub bare_packet : Packet → Packet
bare_packet p = record { session = p.session; stamp = p.stamp; frame = bare p.frame }
