-- What a list of pieces shows as an end of a link.
use Rattle.std.specs.Prelude.{◌≡◌, ℕ, List, ◌++◌, Option, None, slice_get}
use Rattle.wire_ends.specs.declared.packet.WirePacket.{WirePacket}
use Rattle.wire_ends.specs.declared.piece.Piece.{Piece}
use Rattle.wire_ends.specs.Joined.{Joined}
use Rattle.wire_ends.specs.Pieces.{begun_at_end, packets_from}

-- the pieces that are not gathered yet, and what was gathered; how many more pieces need no memory; how many bytes a part has at
-- most; how often it looked; and all packets sent and taken here
pub record PieceState : Type 0 where
  pub pieces : List Piece
  pub gathered : Joined
  pub room : ℕ
  pub most : ℕ
  pub looks : ℕ
  pub sent : List WirePacket
  pub taken : List WirePacket

-- the packets that are still to be taken
abbrev pub untaken : PieceState → List WirePacket
untaken s = s.gathered.whole ++ packets_from s.gathered.begun s.pieces

-- no packet is unfinished after all pieces: the next parcel is a packet of its own
abbrev pub IsAtRest : PieceState → Type 0
IsAtRest s = begun_at_end s.gathered.begun s.pieces ≡ None

-- the packet shown
abbrev pub piece_shown : PieceState → Option WirePacket
piece_shown s = slice_get s.gathered.whole 0
