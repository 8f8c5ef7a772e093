-- Lists of pieces, and the packets that the definition reads out of them. The frame is that of PING, 13 bytes.
use Rattle.std.proofs.Common.{◌≡◌, ℕ, List, [], ◌∷◌, ◌++◌, refl}
use Rattle.std.specs.Prelude.{take, drop}
use Rattle.wire_ends.specs.declared.packet.WirePacket.{WirePacket}
use Rattle.wire_ends.specs.declared.piece.Piece.{Piece}
use Rattle.wire_ends.specs.declared.piece.Piece.TheVariants as piece
use Rattle.wire_ends.specs.Pieces.{packets}

ping : List ℕ
ping = 0 ∷ 0 ∷ 0 ∷ 9 ∷ 0 ∷ 0 ∷ 0 ∷ 5 ∷ 8 ∷ 18 ∷ 146 ∷ 1 ∷ 0 ∷ []

packet : ℕ → List ℕ → WirePacket
packet stamp frame = record { session = 1; stamp = stamp; frame = frame }

head : ℕ → Piece
head stamp = piece.Head 1 stamp 13

part : List ℕ → Piece
part bytes = piece.Part bytes

-- two parts
row_two_parts : packets (head 4 ∷ part (take 5 ping) ∷ part (drop 5 ping) ∷ []) ≡ packet 4 ping ∷ []
unfolding ping packet head part
row_two_parts = refl

-- a head that comes too early cuts the packet off
row_cut_off : packets (head 4 ∷ part (take 5 ping) ∷ head 5 ∷ part ping ∷ []) ≡ packet 4 [] ∷ packet 5 ping ∷ []
unfolding ping packet head part
row_cut_off = refl

-- bytes beyond the length are cut off, and a part that no packet waits for is dropped
row_too_many : packets (part ping ∷ head 4 ∷ part ping ∷ part ping ∷ head 5 ∷ part (take 5 ping) ∷ part ping ∷ []) ≡ packet 4 ping ∷ packet 5 (take 5 ping ++ take 8 ping) ∷ []
unfolding ping packet head part
row_too_many = refl

-- a packet without bytes, and a last one that is not finished
row_no_bytes : packets (piece.Head 1 4 0 ∷ head 5 ∷ part (take 5 ping) ∷ []) ≡ packet 4 [] ∷ []
unfolding ping packet head part
row_no_bytes = refl
