-- What the two ends of a ring show.
use Rattle.std.specs.Prelude.{ℕ, List, Option, slice_get}
use Rattle.wire_ends.specs.declared.packet.WirePacket.{WirePacket}
use Rattle.wire_ends.specs.declared.piece.Piece.{Piece}
use Rattle.wire_ends.specs.Joined.{Joined}

-- the end that sends: all pieces pushed so far, how many places it knows to be free, how many bytes a part has at most, and how
-- often it looked
pub record Sending : Type 0 where
  pub pieces : List Piece
  pub places : ℕ
  pub most : ℕ
  pub looks : ℕ

-- the end that takes: all pieces popped so far, those that a look has shown after them, those popped that memory was wanting for,
-- what the others gave, how many bytes a part has at most, how often it looked, and the packets taken
pub record Taking : Type 0 where
  pub received : List Piece
  pub known : List Piece
  pub waiting : List Piece
  pub gathered : Joined
  pub most : ℕ
  pub looks : ℕ
  pub taken : List WirePacket

-- the packet shown
abbrev pub ring_shown : Taking → Option WirePacket
ring_shown t = slice_get t.gathered.whole 0
