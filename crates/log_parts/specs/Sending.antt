-- What is sent in an event.
use Rattle.std.specs.Prelude.{◌≡◌, ℕ, ◌+◌, ◌<◌, ◌≤◌, true, if◌then◌else◌, List, [], ◌∷◌, ◌++◌}
use Rattle.std.specs.List.{AllByRecursion}
use Rattle.geo_base.specs.declared.packet.Peer.{Peer}
use Rattle.wire_ends.specs.declared.packet.WirePacket.{WirePacket}
use Rattle.log_parts.specs.declared.sending.Addressed.{Addressed}
use Rattle.log_parts.specs.declared.table.EndRow.{EndRow}
use Rattle.wire_ends.specs.Looks.{Looked}
use Rattle.wire_ends.specs.Parcels.{Packed}
use Rattle.log_parts.specs.Peers.{same_peer}
use Rattle.log_parts.specs.Rows.{free_to, has_peer, looks_to, sent_to}

-- the packets that go to a peer, in order, and the places that their parcels take
abbrev pub packets_to : Peer → List Addressed → List WirePacket
packets_to q [] = []
packets_to q (a ∷ as') = if same_peer a.to q then a.parcel.packet ∷ packets_to q as' else packets_to q as'

abbrev pub places_to : Peer → List Addressed → ℕ
places_to q [] = 0
places_to q (a ∷ as') = if same_peer a.to q then a.parcel.places + places_to q as' else places_to q as'

-- what is left after those in front that go to a peer
abbrev pub behind_run : Peer → List Addressed → List Addressed
behind_run q [] = []
behind_run q (a ∷ as') = if same_peer a.to q then behind_run q as' else a ∷ as'

-- each goes to a peer of the table, and is cut as its end wants it
abbrev pub AreAddressed : {E : Type 0} → (Packed → Type 0) → List (EndRow E) → List Addressed → Type 0
AreAddressed fits rs as' = AllByRecursion (λ (a : Addressed). (has_peer rs a.to ≡ true) × fits a.parcel) as'

abbrev pub ArePeers : {E : Type 0} → List (EndRow E) → List Addressed → Type 0
ArePeers rs as' = AllByRecursion (λ (a : Addressed). has_peer rs a.to ≡ true) as'

-- each end is known to have places for all that goes to its peer
abbrev pub HasRoom : {E : Type 0} → (E → ℕ) → List (EndRow E) → List Addressed → Type 0
HasRoom free rs as' = (q : Peer) → places_to q as' ≤ free_to free rs q

-- the same of the parcels from one on, by the peer of each; all are all parcels
abbrev pub HasRoomFor : {E : Type 0} → (E → ℕ) → List (EndRow E) → List Addressed → List Addressed → Type 0
HasRoomFor free rs all as' = AllByRecursion (λ (a : Addressed). places_to a.to all ≤ free_to free rs a.to) as'

-- a look found that an end has too few
pub record LacksRoom {E : Type 0} (free_of looks_of : E → ℕ) (old new : List (EndRow E)) (parcels : List Addressed) : Type 0 where
  pub peer : Peer
  pub few : free_to free_of new peer < places_to peer parcels
  pub looked : Looked (looks_to looks_of old peer) (looks_to looks_of new peer)

-- all were sent
abbrev pub SentAll : {E : Type 0} → (E → List WirePacket) → List Addressed → List (EndRow E) → List (EndRow E) → Type 0
SentAll sent as' old new = (q : Peer) → sent_to sent new q ≡ sent_to sent old q ++ packets_to q as'
