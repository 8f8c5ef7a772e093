-- Tables by peer.
use Rattle.std.specs.Prelude.{◌≡◌, ℕ, ◌+◌, ◌*◌, ◌==◌, if◌then◌else◌, List, [], Option, Some, None, slice_index_or}
use Rattle.geo_base.specs.declared.packet.Peer.{Peer}
use Rattle.geo_base.specs.declared.packet.Peer.TheVariants as peer
use Rattle.wire_ends.specs.declared.packet.WirePacket.{WirePacket}

-- a number for each peer
abbrev pub slot : Peer → ℕ
slot (peer.Forward y) = 4 * y
slot (peer.Back y) = 4 * y + 1
slot (peer.Client c) = 4 * c + 2
slot (peer.Broker y) = 4 * y + 3

abbrev pub sends_in : List (List WirePacket) → ℕ → List WirePacket
sends_in ps k = slice_index_or ps k []

abbrev pub count_in : List ℕ → ℕ → ℕ
count_in ns k = slice_index_or ns k 0

-- one more in a slot, and in that of a peer, if there is one
abbrev pub IsOneMore : ℕ → List ℕ → List ℕ → Type 0
IsOneMore j old new = (k : ℕ) → count_in new k ≡ (if j == k then count_in old k + 1 else count_in old k)

abbrev pub IsRaised : Option Peer → List ℕ → List ℕ → Type 0
IsRaised None old new = new ≡ old
IsRaised (Some q) old new = IsOneMore (slot q) old new
