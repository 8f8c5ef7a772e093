-- Histories of which each packet taken is the one that was sent agree on every link.
use Rattle.std.proofs.Common.{◌≡◌, ℕ, ◌+◌, ◌-◌, ◌*◌, ◌<◌, Bool, true, false, List, [], ◌∷◌, ◌++◌, length, refl, sym, ap, subst, ◌∙◌, ◌==◌, arith, nat_lt}
use Rattle.std.specs.Prelude.{Option, Some, None, ◌&&◌, if◌then◌else◌, not}
use Rattle.std.proofs.lemmas.Bool.{eq-eqb, eqb-true, false≢true, ltb-true}
use Rattle.std.proofs.lemmas.Nat.{div-mul-add}
use Rattle.geo_base.specs.declared.packet.Peer.{Peer}
use Rattle.geo_base.specs.declared.packet.Peer.TheVariants as peer
use Rattle.geo_base.specs.Broker.{new_broker}
use Rattle.geo_base.specs.Client.{new_client}
use Rattle.geo_base.specs.History.{RecordedEvent, state_after}
use Rattle.geo_base.specs.Merge.{history_of}
use Rattle.geo_base.specs.NodeState.{BrokerState, ClientState, NodeState, opening_state, takes_from}
use Rattle.geo_base.specs.Nodes.{BrokerNode, ClientNode, Node, beside, broker_count, has_link, is_node, is_peer, link_from, link_to, node_count, node_number, same_link, sender_of, taker_of}
use Rattle.geo_base.specs.Planned.{has_client, has_node}
use Rattle.geo_base.specs.Setup.{Setup, declared_at}
use Rattle.geo_base.specs.World.{Back, Forward, LinkName, node}
use Rattle.world_laws.proofs.Merges.Roles.{opening_role}
use Rattle.world_laws.proofs.Walks.Walk.{left, right}
use Rattle.world_laws.specs.ByteHistories.{AreByteHistories, ByteSent, bytes_sent_in, bytes_sent_over, bytes_taken_in, bytes_taken_over}
use Rattle.wire_ends.specs.declared.packet.WirePacket.{WirePacket}
use Rattle.frame_laws.specs.Logs.{StandsAs}
use Rattle.merge_history.specs.declared.packet_layout.Home.{Home}
use Rattle.merge_history.specs.Kept.{Kept, kept_by}
use Rattle.merge_history.specs.Differences.{AllSent}
use Rattle.merge_history.specs.Ends.{AreStood, IsFromPeer, IsLayoutOf, LinkEnds, SendsToPeers, TakesFromPeers, ToPeers, other_end}
use Rattle.merge_history.specs.Peers.{LayoutView, cluster_then, end_of, home_at, home_of, no_home, peer_taken, sent_to, taken_from}
use Rattle.merge_history.proofs.Agreed.{agreed}
use Rattle.merge_history.proofs.Ends.{add_same, and_self, one_link, self_and, sent_same, taken_same}
use Rattle.merge_history.proofs.Known.{IsAtCluster, broker_below, sends_to_peers, takes_from_peers}
use Rattle.merge_history.proofs.Numbers.{both_true, end_is, link_ends, not_same, other_way}
use Rattle.geo_base.proofs.Bools.{not_true_false}

-- ---- a link on which a node neither sends nor takes
none_once : (s : Setup) (k : LinkName) (n : Node) (os : List (ByteSent WirePacket)) → ((p : Peer) → is_peer s n p ≡ true → same_link (link_to s n p) k ≡ false)
    → ToPeers s n os → bytes_sent_over s k n os ≡ []
none_once s k n [] to_apart h = refl
none_once s k n (o ∷ os) to_apart h =
    ap (λ (t : Bool). if t then o.packet ∷ bytes_sent_over s k n os else bytes_sent_over s k n os) (to_apart o.to h.0) ∙ none_once s k n os to_apart h.1

none_sent : (s : Setup) (k : LinkName) (n : Node) (ds : List Kept) → ((p : Peer) → is_peer s n p ≡ true → same_link (link_to s n p) k ≡ false)
    → SendsToPeers s n ds → bytes_sent_in s k ds ≡ []
none_sent s k n [] to_apart h = refl
none_sent s k n (d ∷ ds) to_apart h =
    ap (λ (m : Node). bytes_sent_over s k m d.sent ++ bytes_sent_in s k ds) h.0.0
    ∙ (ap (λ (bs : List WirePacket). bs ++ bytes_sent_in s k ds) (none_once s k n d.sent to_apart h.0.1) ∙ none_sent s k n ds to_apart h.1)

none_over : (s : Setup) (k : LinkName) (n : Node) (p : Option Peer) (b : Option WirePacket) → ((p : Peer) → is_peer s n p ≡ true → same_link (link_from s n p) k ≡ false)
    → IsFromPeer s n p → bytes_taken_over s k n p b ≡ []
none_over s k n None None to_apart h = refl
none_over s k n None (Some b) to_apart h = refl
none_over s k n (Some p) None to_apart h = refl
none_over s k n (Some p) (Some b) to_apart h = ap (λ (t : Bool). if t then b ∷ [] else []) (to_apart p h)

none_taken : (s : Setup) (k : LinkName) (n : Node) (x : ℕ) (st : NodeState) (xs : List Kept) (ds : List RecordedEvent)
    → ((p : Peer) → is_peer s n p ≡ true → same_link (link_from s n p) k ≡ false) → TakesFromPeers s n x st xs ds → bytes_taken_in s k st xs ds ≡ []
none_taken s k n x st [] ds to_apart h = refl
none_taken s k n x st (d ∷ xs) [] to_apart h = refl
none_taken s k n x st (d ∷ xs) (v ∷ ds) to_apart h =
    let more = bytes_taken_in s k (state_after s st v) xs ds in
    ap (λ (m : Node). bytes_taken_over s k m (takes_from st d.event) d.taken ++ more) h.0.0
    ∙ (ap (λ (p : Option Peer). bytes_taken_over s k n p d.taken ++ more) h.0.1.0
    ∙ (ap (λ (bs : List WirePacket). bs ++ more) (none_over s k n (peer_taken x d.event) d.taken to_apart h.0.1.1)
    ∙ none_taken s k n (cluster_then x d.sent) (state_after s st v) xs ds to_apart h.1))

differ : (y x w : ℕ) → (nat_lt y w && not (y == x)) ≡ true → (y == x) ≡ false
differ y x w h = not_true_false (y == x) (right (nat_lt y w) (not (y == x)) h)

no_forward : (s : Setup) (t x : ℕ) (p : Peer) → is_peer s (BrokerNode t x) p ≡ true → same_link (link_to s (BrokerNode t x) p) (Forward (node s t x) x) ≡ false
no_forward s t x (peer.Forward y) h = self_and (node s t x) (y == x) ∙ differ y x (length s.clusters) h
no_forward s t x (peer.Back y) h = refl
no_forward s t x (peer.Client c) h = refl
no_forward s t x (peer.Broker y) h = absurd (false≢true h)

from_no_forward : (s : Setup) (t x : ℕ) (p : Peer) → is_peer s (BrokerNode t x) p ≡ true → same_link (link_from s (BrokerNode t x) p) (Forward (node s t x) x) ≡ false
from_no_forward s t x (peer.Forward y) h = refl
from_no_forward s t x (peer.Back y) h =
    and_self x (node s t y == node s t x) ∙ (add_same (t * length s.clusters) y x ∙ differ y x (length s.clusters) h)
from_no_forward s t x (peer.Client c) h = refl
from_no_forward s t x (peer.Broker y) h = absurd (false≢true h)

no_back : (s : Setup) (t x : ℕ) (p : Peer) → is_peer s (BrokerNode t x) p ≡ true → same_link (link_to s (BrokerNode t x) p) (Back (node s t x) x) ≡ false
no_back s t x (peer.Forward y) h = refl
no_back s t x (peer.Back y) h =
    and_self x (node s t y == node s t x) ∙ (add_same (t * length s.clusters) y x ∙ differ y x (length s.clusters) h)
no_back s t x (peer.Client c) h = refl
no_back s t x (peer.Broker y) h = absurd (false≢true h)

from_no_back : (s : Setup) (t x : ℕ) (p : Peer) → is_peer s (BrokerNode t x) p ≡ true → same_link (link_from s (BrokerNode t x) p) (Back (node s t x) x) ≡ false
from_no_back s t x (peer.Forward y) h = self_and (node s t x) (y == x) ∙ differ y x (length s.clusters) h
from_no_back s t x (peer.Back y) h = refl
from_no_back s t x (peer.Client c) h = refl
from_no_back s t x (peer.Broker y) h = absurd (false≢true h)

-- ---- the other end is a node, and this one is its peer
other_there : (s : Setup) (n : Node) (q : Peer) → is_node s n ≡ true → is_peer s n q ≡ true
    → (is_node s (other_end s n q).node ≡ true) × (is_peer s (other_end s n q).node (other_end s n q).peer ≡ true)
other_there s (BrokerNode t x) (peer.Forward y) there h = (
  both_true _ _ (left (nat_lt t (length s.topics)) (nat_lt x (length s.clusters)) there) (left (nat_lt y (length s.clusters)) (not (y == x)) h),
  both_true _ _ (right (nat_lt t (length s.topics)) (nat_lt x (length s.clusters)) there) (not_same x y (other_way y x (differ y x (length s.clusters) h))),
)
other_there s (BrokerNode t x) (peer.Back y) there h = (
  both_true _ _ (left (nat_lt t (length s.topics)) (nat_lt x (length s.clusters)) there) (left (nat_lt y (length s.clusters)) (not (y == x)) h),
  both_true _ _ (right (nat_lt t (length s.topics)) (nat_lt x (length s.clusters)) there) (not_same x y (other_way y x (differ y x (length s.clusters) h))),
)
other_there s (BrokerNode t x) (peer.Client c) there h =
    let same : (declared_at s c).topic ≡ t = eqb-true _ _ (right (has_client s c) ((declared_at s c).topic == t) h) in
    (left (has_client s c) ((declared_at s c).topic == t) h, subst (λ (i : ℕ). has_node s i x ≡ true) (sym same) there)
other_there s (BrokerNode t x) (peer.Broker y) there h = absurd (false≢true h)
other_there s (ClientNode c) (peer.Broker x) there h = (h, both_true _ _ there (eq-eqb _ _ refl))
other_there s (ClientNode c) (peer.Forward x) there h = absurd (false≢true h)
other_there s (ClientNode c) (peer.Back x) there h = absurd (false≢true h)
other_there s (ClientNode c) (peer.Client x) there h = absurd (false≢true h)

-- ---- how a node opens
count_lt : (s : Setup) (n : Node) → is_node s n ≡ true → node_number s n < node_count s
count_lt s (BrokerNode t x) h = let lt = broker_below s t x h in omega (arith, lt)
count_lt s (ClientNode c) h = let lt = ltb-true c (length s.clients) h in omega (arith, lt)

opens_at : (s : Setup) (l : LayoutView) (n : ℕ) → IsLayoutOf s l → IsAtCluster s n (home_of l n).cluster (opening_state s n)
opens_at s l n of = by (nat_lt n (broker_count s)) refl
  where
    by : (b : Bool) → nat_lt n (broker_count s) ≡ b
        → IsAtCluster s n (home_of l n).cluster (if b then BrokerState (new_broker (length s.clusters) (length s.clients)) else ClientState (new_client (declared_at s (n - broker_count s))))
    by true e = IsAtCluster.AsBroker _ (ltb-true _ _ e)
    by false e =
        let own : home_of l n ≡ home_at l (n - broker_count s) =
        ap (λ (b : ℕ). if nat_lt n b then no_home else home_at l (n - b)) of.brokers ∙ ap (λ (t : Bool). if t then no_home else home_at l (n - broker_count s)) e in
        IsAtCluster.AsClient _ (sym (ap (λ (h : Home). h.cluster) own ∙ of.declared (n - broker_count s)))

-- ---- all histories
sends_of : (s : Setup) (l : LayoutView) (kept : List (List Kept)) (hs : List (List RecordedEvent)) (n : Node) → AreStood s l kept hs
    → is_node s n ≡ true → SendsToPeers s n (kept_by kept (node_number s n))
sends_of s l kept hs n are there =
    let i = node_number s n in
    sends_to_peers (StandsAs s.clusters) s n (opening_state s i) 0 (kept_by kept i) (history_of hs i) there (opening_role s i are.scripted (count_lt s n there)) (are.stands i) (are.replay i)

takes_of : (s : Setup) (l : LayoutView) (kept : List (List Kept)) (hs : List (List RecordedEvent)) (n : Node) → AreStood s l kept hs
    → is_node s n ≡ true
    → TakesFromPeers s n (home_of l (node_number s n)).cluster (opening_state s (node_number s n)) (kept_by kept (node_number s n)) (history_of hs (node_number s n))
takes_of s l kept hs n are there =
    let i = node_number s n in
    takes_from_peers (StandsAs s.clusters) s n (home_of l i).cluster (opening_state s i) 0 (kept_by kept i) (history_of hs i) there (opens_at s l i are.layout) (are.stands i) (are.replay i)

abbrev pub AgreeOn : Setup → List (List Kept) → List (List RecordedEvent) → LinkName → (sender taker : ℕ) → Type 0
AgreeOn s kept hs k m n =
    (rest : List WirePacket) × (bytes_sent_in s k (kept_by kept m) ≡ bytes_taken_in s k (opening_state s n) (kept_by kept n) (history_of hs n) ++ rest)

shared_agrees : (s : Setup) (l : LayoutView) (kept : List (List Kept)) (hs : List (List RecordedEvent)) (n : Node) (q : Peer)
    → AreStood s l kept hs → AllSent l kept (node_number s n) → is_node s n ≡ true → is_peer s n q ≡ true
    → AgreeOn s kept hs (link_from s n q) (node_number s (other_end s n q).node) (node_number s n)
shared_agrees s l kept hs n q are all there h =
    let i = node_number s n in let other = other_end s n q in let m = node_number s other.node in let e = end_of l i q in
    let a = agreed l kept i q all in
    let is = end_is s l n q are.layout there h in
    let back = other_there s n q there h in
    let sent : bytes_sent_in s (link_from s n q) (kept_by kept m) ≡ sent_to other.peer (kept_by kept m) =
    ap (λ (k : LinkName). bytes_sent_in s k (kept_by kept m)) (one_link s n q h)
    ∙ sent_same s other.node other.peer (kept_by kept m) back.1 (sends_of s l kept hs other.node are back.0) in
    let same : sent_to other.peer (kept_by kept m) ≡ sent_to e.peer (kept_by kept e.node) =
    ap (λ (j : ℕ). sent_to other.peer (kept_by kept j)) (sym is.0) ∙ ap (λ (p : Peer). sent_to p (kept_by kept e.node)) (sym is.1) in
    let taken : bytes_taken_in s (link_from s n q) (opening_state s i) (kept_by kept i) (history_of hs i) ≡ taken_from q (home_of l i).cluster (kept_by kept i) =
    taken_same s n q (home_of l i).cluster (opening_state s i) (kept_by kept i) (history_of hs i) h (takes_of s l kept hs n are there) in
    (a.0, sent ∙ (same ∙ (a.1 ∙ ap (λ (bs : List WirePacket). bs ++ a.0) (sym taken))))

-- a broker's link to itself
alone_agrees : (s : Setup) (l : LayoutView) (kept : List (List Kept)) (hs : List (List RecordedEvent)) (k : LinkName) (n : Node)
    → AreStood s l kept hs → is_node s n ≡ true → ((p : Peer) → is_peer s n p ≡ true → same_link (link_to s n p) k ≡ false)
    → ((p : Peer) → is_peer s n p ≡ true → same_link (link_from s n p) k ≡ false) → AgreeOn s kept hs k (node_number s n) (node_number s n)
alone_agrees s l kept hs k n are there to_apart from_apart =
    let i = node_number s n in (
      [],
      none_sent s k n (kept_by kept i) to_apart (sends_of s l kept hs n are there)
          ∙ sym (ap (λ (bs : List WirePacket). bs ++ []) (none_taken s k n (home_of l i).cluster (opening_state s i) (kept_by kept i) (history_of hs i) from_apart (takes_of s l kept hs n are there))),
    )

-- beside a broker at its own cluster is itself
itself : (s : Setup) (t x : ℕ) → is_node s (BrokerNode t x) ≡ true → beside s (node s t x) x ≡ node s t x
itself s t x there =
    let lt = ltb-true _ _ (right (nat_lt t (length s.topics)) (nat_lt x (length s.clusters)) there) in
    ap (λ (i : ℕ). node s i x) (div-mul-add t (length s.clusters) x lt)

pub link_agrees : (s : Setup) (l : LayoutView) (kept : List (List Kept)) (hs : List (List RecordedEvent)) → AreStood s l kept hs
    → ((n : ℕ) → AllSent l kept n) → (k : LinkName) → LinkEnds s k → has_link s k ≡ true → AgreeOn s kept hs k (sender_of s k) (taker_of s k)
link_agrees s l kept hs are all k (LinkEnds.Shared n q there h is taker sender) has =
    let here = shared_agrees s l kept hs n q are (all (node_number s n)) there h in
    subst (λ (j : LinkName). AgreeOn s kept hs j (sender_of s k) (taker_of s k)) is
    (subst (λ (i : ℕ). AgreeOn s kept hs (link_from s n q) i (taker_of s k)) sender
    (subst (λ (i : ℕ). AgreeOn s kept hs (link_from s n q) (node_number s (other_end s n q).node) i) taker here))
link_agrees s l kept hs are all k (LinkEnds.ForwardToItself t x there is) has =
    subst (λ (j : LinkName). AgreeOn s kept hs j (sender_of s j) (taker_of s j)) (sym is)
    (subst (λ (i : ℕ). AgreeOn s kept hs (Forward (node s t x) x) (node s t x) i) (sym (itself s t x there))
    (alone_agrees s l kept hs (Forward (node s t x) x) (BrokerNode t x) are there (no_forward s t x) (from_no_forward s t x)))
link_agrees s l kept hs are all k (LinkEnds.BackToItself t x there is) has =
    subst (λ (j : LinkName). AgreeOn s kept hs j (sender_of s j) (taker_of s j)) (sym is)
    (subst (λ (i : ℕ). AgreeOn s kept hs (Back (node s t x) x) i (node s t x)) (sym (itself s t x there))
    (alone_agrees s l kept hs (Back (node s t x) x) (BrokerNode t x) are there (no_back s t x) (from_no_back s t x)))

pub linked : (s : Setup) (l : LayoutView) (kept : List (List Kept)) (hs : List (List RecordedEvent)) → AreStood s l kept hs
    → ((n : ℕ) → AllSent l kept n) → AreByteHistories (StandsAs s.clusters) s (λ n. kept_by kept n) hs
linked s l kept hs are all =
    let least = are.scripted.clusters.0 in record {
      nodes = are.nodes;
      stands = are.stands;
      replay = are.replay;
      agree = λ k has. link_agrees s l kept hs are all k (link_ends s k (omega (arith, least)) has) has;
    }
