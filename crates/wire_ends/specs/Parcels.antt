-- A packet that is ready to be sent: cut into parts.
use Rattle.std.specs.Prelude.{◌≡◌, ℕ, ◌+◌, ◌<◌, ◌≤◌, List, [], ◌∷◌, length, map, All}
use Rattle.wire_ends.specs.declared.packet.WirePacket.{WirePacket}
use Rattle.wire_ends.specs.declared.piece.Piece.{Piece}
use Rattle.wire_ends.specs.declared.piece.Piece.TheVariants as piece

-- the packet, the parts that its frame is cut into, and how many places it takes
pub record Packed : Type 0 where
  pub packet : WirePacket
  pub parts : List (List ℕ)
  pub places : ℕ

-- a first part and those after it; a frame without a byte has no part
abbrev pub parts_of : List ℕ → List (List ℕ) → List (List ℕ)
parts_of [] rest = []
parts_of (b ∷ bs) rest = (b ∷ bs) ∷ rest

-- each part has a byte, and so many at most
abbrev pub AreParts : ℕ → List (List ℕ) → Type 0
AreParts most parts = All (λ (part : List ℕ). (0 < length part) × (length part ≤ most)) parts

-- parts as pieces
abbrev pub as_parts : List (List ℕ) → List Piece
as_parts parts = map (λ (part : List ℕ). piece.Part part) parts

-- the pieces of a parcel, in order
abbrev pub pieces_of : Packed → List Piece
pieces_of p = piece.Head p.packet.session p.packet.stamp (length p.packet.frame) ∷ as_parts p.parts

-- a parcel of one place, whose frame is whole
abbrev pub IsWhole : Packed → Type 0
IsWhole p = (p.places ≡ 1) × (length p.parts ≤ 1)

-- a parcel with a place for each of its pieces
abbrev pub IsCut : Packed → Type 0
IsCut p = p.places ≡ length p.parts + 1

-- the packets of parcels
abbrev pub packets_of : List Packed → List WirePacket
packets_of ps = map (λ (p : Packed). p.packet) ps
