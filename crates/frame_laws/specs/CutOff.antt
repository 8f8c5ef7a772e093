-- A packet that was cut off on its way.
use Rattle.std.specs.Prelude.{[]}
use Rattle.geo_base.specs.declared.packet.Packet.{Packet}
use Rattle.wire_ends.specs.declared.packet.WirePacket.{WirePacket}

-- what comes out of a link where a piece of the packet was lost: its session and its stamp, and no byte
abbrev pub cut_off : Packet → WirePacket
cut_off p = record { session = p.session; stamp = p.stamp; frame = [] }
