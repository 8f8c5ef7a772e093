-- An end of a ring, of either kind, as an end of a link.
use Rattle.std.specs.Prelude.{ℕ, List, [], ◌++◌, Option, None}
use Rattle.wire_ends.specs.declared.packet.WirePacket.{WirePacket}
use Rattle.wire_ends.specs.declared.piece.Piece.{Piece}
use Rattle.wire_ends.specs.Pieces.{packets}
use Rattle.link_rings.specs.Rings.{ring_shown}
use Rattle.link_rings.specs.declared.either.RingEnd.{RingEnd}
use Rattle.link_rings.specs.declared.either.RingEnd.TheVariants as end

abbrev pub sent_by : RingEnd → List WirePacket
sent_by (end.Send s) = packets s.pieces
sent_by (end.Take t) = []

abbrev pub taken_by : RingEnd → List WirePacket
taken_by (end.Send s) = []
taken_by (end.Take t) = t.taken

abbrev pub free_of : RingEnd → ℕ
free_of (end.Send s) = s.places
free_of (end.Take t) = 0

abbrev pub shown_by : RingEnd → Option WirePacket
shown_by (end.Send s) = None
shown_by (end.Take t) = ring_shown t

abbrev pub waiting_at : RingEnd → List Piece
waiting_at (end.Send s) = []
waiting_at (end.Take t) = t.waiting ++ t.known

abbrev pub looks_of : RingEnd → ℕ
looks_of (end.Send s) = s.looks
looks_of (end.Take t) = t.looks
