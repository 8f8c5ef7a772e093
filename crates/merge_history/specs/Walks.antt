-- How far a node's history was read, in search of a packet that is not the one that was sent.
use Rattle.std.specs.Prelude.{◌≡◌, ℕ, Bool, true, false, List, length, [], Some, slice_get, slice_index_or}
use Rattle.geo_base.specs.declared.packet.Peer.{Peer}
use Rattle.wire_ends.specs.declared.packet.WirePacket.{WirePacket}
use Rattle.merge_history.specs.declared.packet_layout.FarEnd.{FarEnd}
use Rattle.merge_history.specs.declared.walk.Found.{Found}
use Rattle.merge_history.specs.Kept.{Kept, kept_by}
use Rattle.merge_history.specs.Differences.{DiffersFirst, index_taken}
use Rattle.merge_history.specs.Peers.{LayoutView, cluster_along, end_of, home_of, peer_taken, sent_to, taken_from}
use Rattle.merge_history.specs.Slots.{count_in, sends_in, slot}

-- the packets that each node sent, by the slots of its peers
abbrev pub Sends : Type 0
Sends = List (List WirePacket)

abbrev pub AreOutboxes : List (List Kept) → List Sends → Type 0
AreOutboxes kept outs = (n : ℕ) (q : Peer) → sends_in (slice_index_or outs n []) (slot q) ≡ sent_to q (kept_by kept n)

-- counts by slot, and where the client is
pub record WalkView : Type 0 where
  pub counts : List ℕ
  pub cluster : ℕ

-- after these events of node n
pub record IsWalked (l : LayoutView) (n : ℕ) (ds : List Kept) (w : WalkView) : Type 0 where
  pub counts : (q : Peer) → count_in w.counts (slot q) ≡ length (taken_from q (home_of l n).cluster ds)
  pub cluster : w.cluster ≡ cluster_along (home_of l n).cluster ds

abbrev pub WasSent : List (List Kept) → FarEnd → ℕ → WirePacket → Bool → Type 0
WasSent kept end i b true = slice_get (sent_to end.peer (kept_by kept end.node)) i ≡ Some b
WasSent kept end i b false = slice_get (sent_to end.peer (kept_by kept end.node)) i ≡ Some b → ⊥

-- the next event takes a packet from q that is not the one that was sent at place i
pub record DiffersHere (l : LayoutView) (kept : List (List Kept)) (n : ℕ) (w : WalkView) (d : Kept) (q : Peer) (i : ℕ) : Type 0 where
  pub packet : WirePacket
  pub taken : d.taken ≡ Some packet
  pub comes : peer_taken w.cluster d.event ≡ Some q
  pub index : i ≡ count_in w.counts (slot q)
  pub differs : slice_get (sent_to (end_of l n q).peer (kept_by kept (end_of l n q).node)) i ≡ Some packet → ⊥

-- the next event takes none, or the one that was sent
abbrev pub IsSentHere : LayoutView → List (List Kept) → ℕ → WalkView → Kept → Type 0
IsSentHere l kept n w d = (q : Peer) (b : WirePacket) → d.taken ≡ Some b → peer_taken w.cluster d.event ≡ Some q
    → slice_get (sent_to (end_of l n q).peer (kept_by kept (end_of l n q).node)) (count_in w.counts (slot q)) ≡ Some b

-- what was found is the first such packet of node n
pub record IsFoundAt (l : LayoutView) (kept : List (List Kept)) (n : ℕ) (f : Found) : Type 0 where
  pub packet : WirePacket
  pub first : DiffersFirst l kept n f.place f.peer packet
  pub index : f.index ≡ index_taken l kept n f.place f.peer
