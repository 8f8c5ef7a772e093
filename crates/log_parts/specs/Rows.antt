-- The ends of a node's links, by peer. A peer has one row; were there more, the first would count.
use Rattle.std.specs.Prelude.{◌≡◌, ℕ, suc, ◌+◌, ◌≤◌, Bool, true, false, if◌then◌else◌, List, [], ◌∷◌, ◌++◌, Option, Some, None}
use Rattle.std.specs.Option.{option_to_list}
use Rattle.geo_base.specs.declared.packet.Peer.{Peer}
use Rattle.wire_ends.specs.declared.packet.WirePacket.{WirePacket}
use Rattle.log_parts.specs.declared.table.EndRow.{EndRow}
use Rattle.log_parts.specs.Peers.{same_peer}

-- what f says of the row of a peer; d where the peer has none
abbrev pub at_peer : {E X : Type 0} → (EndRow E → X) → X → List (EndRow E) → Peer → X
at_peer f d [] q = d
at_peer f d (r ∷ rs) q = if same_peer r.peer q then f r else at_peer f d rs q

abbrev pub has_peer : {E : Type 0} → List (EndRow E) → Peer → Bool
has_peer rs q = at_peer (λ r. true) false rs q

-- the row's place, the first row's being i
abbrev pub place_from : {E : Type 0} → ℕ → List (EndRow E) → Peer → Option ℕ
place_from i [] q = None
place_from i (r ∷ rs) q = if same_peer r.peer q then Some i else place_from (suc i) rs q

-- the packets sent to a peer and those taken from it, how many places are known to be free, and the packet shown; sent, taken, free
-- and shown are those of an end
abbrev pub sent_to : {E : Type 0} → (E → List WirePacket) → List (EndRow E) → Peer → List WirePacket
sent_to sent rs q = at_peer (λ r. sent r.send) [] rs q

abbrev pub taken_from : {E : Type 0} → (E → List WirePacket) → List (EndRow E) → Peer → List WirePacket
taken_from taken rs q = at_peer (λ r. taken r.take) [] rs q

abbrev pub free_to : {E : Type 0} → (E → ℕ) → List (EndRow E) → Peer → ℕ
free_to free rs q = at_peer (λ r. free r.send) 0 rs q

abbrev pub shown_from : {E : Type 0} → (E → Option WirePacket) → List (EndRow E) → Peer → Option WirePacket
shown_from shown rs q = at_peer (λ r. shown r.take) None rs q

-- the looks of the end that sends to a peer, and of the one that takes from it
abbrev pub looks_to : {E : Type 0} → (E → ℕ) → List (EndRow E) → Peer → ℕ
looks_to looks rs q = at_peer (λ r. looks r.send) 0 rs q

abbrev pub looks_from : {E : Type 0} → (E → ℕ) → List (EndRow E) → Peer → ℕ
looks_from looks rs q = at_peer (λ r. looks r.take) 0 rs q

-- the same taking ends, by what they show and took
pub record SameTakes {E : Type 0} (taken_of : E → List WirePacket) (shown_of : E → Option WirePacket) (old new : List (EndRow E)) : Type 0 where
  pub taken : (q : Peer) → taken_from taken_of new q ≡ taken_from taken_of old q
  pub shown : (q : Peer) → shown_from shown_of new q ≡ shown_from shown_of old q

-- nothing was taken; what is shown may be another packet, where an end sends and takes what it sent
abbrev pub SameTaken : {E : Type 0} → (E → List WirePacket) → List (EndRow E) → List (EndRow E) → Type 0
SameTaken taken old new = (q : Peer) → taken_from taken new q ≡ taken_from taken old q

-- nothing was sent, and no place was used
pub record SameSends {E : Type 0} (sent_of : E → List WirePacket) (free_of : E → ℕ) (old new : List (EndRow E)) : Type 0 where
  pub sent : (q : Peer) → sent_to sent_of new q ≡ sent_to sent_of old q
  pub free : (q : Peer) → free_to free_of old q ≤ free_to free_of new q

abbrev pub SamePeers : {E : Type 0} → List (EndRow E) → List (EndRow E) → Type 0
SamePeers old new = (q : Peer) → has_peer new q ≡ has_peer old q

-- one more packet was taken from a peer, if one was
abbrev pub TookFrom : {E : Type 0} → (E → List WirePacket) → Peer → Option WirePacket → List (EndRow E) → List (EndRow E) → Type 0
TookFrom taken from o old new = (q : Peer) → taken_from taken new q ≡ (if same_peer from q then taken_from taken old q ++ option_to_list o else taken_from taken old q)

-- one more packet was sent to a peer
abbrev pub SentOne : {E : Type 0} → (E → List WirePacket) → Peer → WirePacket → List (EndRow E) → List (EndRow E) → Type 0
SentOne sent to p old new = (q : Peer) → sent_to sent new q ≡ (if same_peer to q then sent_to sent old q ++ p ∷ [] else sent_to sent old q)

-- no more places were used than those to the peer
abbrev pub UsedAtMost : {E : Type 0} → (E → ℕ) → Peer → ℕ → List (EndRow E) → List (EndRow E) → Type 0
UsedAtMost free to places old new = (q : Peer) → free_to free old q ≤ free_to free new q + (if same_peer to q then places else 0)

-- looks at sending ends never fall
abbrev pub LooksRise : {E : Type 0} → (E → ℕ) → List (EndRow E) → List (EndRow E) → Type 0
LooksRise looks old new = (q : Peer) → looks_to looks old q ≤ looks_to looks new q
