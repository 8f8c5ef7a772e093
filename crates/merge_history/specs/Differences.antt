-- Where histories do not agree: a packet that a node took, and that is not the one that its peer sent at that place.
use Rattle.std.specs.Prelude.{◌≡◌, ◌<◌, List, length, ℕ, Option, Some, slice_get, take}
use Rattle.geo_base.specs.declared.packet.Peer.{Peer}
use Rattle.wire_ends.specs.declared.packet.WirePacket.{WirePacket}
use Rattle.merge_history.specs.Kept.{Kept, kept_by}
use Rattle.merge_history.specs.Peers.{LayoutView, cluster_along, end_of, home_of, peer_taken, sent_to, taken_from}

-- what a node did before so many events were done
abbrev pub earlier : List (List Kept) → ℕ → ℕ → List Kept
earlier kept n i = take i (kept_by kept n)

-- the event at a place of a node's history takes a packet from a peer
pub record Takes (l : LayoutView) (kept : List (List Kept)) (n i : ℕ) (q : Peer) (b : WirePacket) : Type 0 where
  pub event : Kept
  pub there : slice_get (kept_by kept n) i ≡ Some event
  pub comes : peer_taken (cluster_along ((home_of l n).cluster) (earlier kept n i)) event.event ≡ Some q
  pub taken : event.taken ≡ Some b

-- how many packets the node took from that peer before, and what the peer sent to it at that place
abbrev pub index_taken : LayoutView → List (List Kept) → ℕ → ℕ → Peer → ℕ
index_taken l kept n i q = length (taken_from q ((home_of l n).cluster) (earlier kept n i))

abbrev pub sent_there : LayoutView → List (List Kept) → ℕ → ℕ → Peer → Option WirePacket
sent_there l kept n i q =
    let end = end_of l n q in slice_get (sent_to end.peer (kept_by kept end.node)) (index_taken l kept n i q)

-- each packet that the event at this place took is the one that was sent
abbrev pub IsSentAt : LayoutView → List (List Kept) → ℕ → ℕ → Type 0
IsSentAt l kept n i = (q : Peer) (b : WirePacket) → Takes l kept n i q b → sent_there l kept n i q ≡ Some b

abbrev pub AllSent : LayoutView → List (List Kept) → ℕ → Type 0
AllSent l kept n = (i : ℕ) → IsSentAt l kept n i

-- a packet that was taken is not the one that was sent, and each that the node took before is
pub record DiffersFirst (l : LayoutView) (kept : List (List Kept)) (n i : ℕ) (q : Peer) (b : WirePacket) : Type 0 where
  pub takes : Takes l kept n i q b
  pub differs : sent_there l kept n i q ≡ Some b → ⊥
  pub first : (j : ℕ) → j < i → IsSentAt l kept n j
