-- What moving a packet by hand does to ends that are lists.
use Rattle.std.specs.Prelude.{◌≡◌, if◌then◌else◌, List, [], ◌∷◌, ◌++◌, drop}
use Rattle.log_parts.specs.declared.table.EndRow.{EndRow}
use Rattle.log_parts.specs.Peers.{same_peer}
use Rattle.log_parts.specs.Rows.{at_peer, sent_to, taken_from}
use Rattle.geo_base.specs.declared.packet.Peer.{Peer}
use Rattle.wire_ends.specs.declared.packet.WirePacket.{WirePacket}
use Rattle.wire_ends.specs.ListEnds.{ListState}

-- the packets that were sent to a peer and not given yet, and those from it that are still to be taken
abbrev pub held_for : List (EndRow ListState) → Peer → List WirePacket
held_for rs q = at_peer (λ r. r.send.held) [] rs q

abbrev pub held_from : List (EndRow ListState) → Peer → List WirePacket
held_from rs q = at_peer (λ r. r.take.held) [] rs q

-- the first packet that was sent to a peer was given; what was sent and taken stays
pub record Gave (to : Peer) (old new : List (EndRow ListState)) : Type 0 where
  pub given : (q : Peer) → held_for new q ≡ (if same_peer to q then drop 1 (held_for old q) else held_for old q)
  pub rest : (q : Peer) → held_from new q ≡ held_from old q
  pub sent : (q : Peer) → sent_to (λ e. e.sent) new q ≡ sent_to (λ e. e.sent) old q
  pub taken : (q : Peer) → taken_from (λ e. e.taken) new q ≡ taken_from (λ e. e.taken) old q

-- one more packet is to be taken from a peer
pub record Put (from : Peer) (p : WirePacket) (old new : List (EndRow ListState)) : Type 0 where
  pub put : (q : Peer) → held_from new q ≡ (if same_peer from q then held_from old q ++ p ∷ [] else held_from old q)
  pub rest : (q : Peer) → held_for new q ≡ held_for old q
  pub sent : (q : Peer) → sent_to (λ e. e.sent) new q ≡ sent_to (λ e. e.sent) old q
  pub taken : (q : Peer) → taken_from (λ e. e.taken) new q ≡ taken_from (λ e. e.taken) old q

-- nothing was put, given, sent or taken
pub record Kept (old new : List (EndRow ListState)) : Type 0 where
  pub here : (q : Peer) → held_from new q ≡ held_from old q
  pub rest : (q : Peer) → held_for new q ≡ held_for old q
  pub sent : (q : Peer) → sent_to (λ e. e.sent) new q ≡ sent_to (λ e. e.sent) old q
  pub taken : (q : Peer) → taken_from (λ e. e.taken) new q ≡ taken_from (λ e. e.taken) old q
