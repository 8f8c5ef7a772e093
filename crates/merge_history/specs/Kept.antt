-- What nodes keep: their histories, with packets as the bytes that crossed the links.
use Rattle.std.specs.Prelude.{ℕ, List, [], slice_index_or}
use Rattle.wire_ends.specs.declared.packet.WirePacket.{WirePacket}
use Rattle.world_laws.specs.ByteHistories.{ByteEvent}

-- an event that a node did
abbrev pub Kept : Type 0
Kept = ByteEvent WirePacket

abbrev pub kept_stamp : Kept → ℕ
kept_stamp x = x.stamp

-- the histories of nodes stand in the order of their numbers
abbrev pub kept_by : List (List Kept) → ℕ → List Kept
kept_by kept n = slice_index_or kept n []
