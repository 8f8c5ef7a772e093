-- What is known of a history that stands for one of values and that replays: it sends to its node's peers, and takes from them.
use Rattle.std.proofs.Common.{◌≡◌, ℕ, ◌+◌, ◌-◌, ◌*◌, ◌<◌, ◌/◌, ◌%◌, true, false, List, [], ◌∷◌, length, refl, sym, ap, subst, ◌∙◌, arith, nat_lt}
use Rattle.std.specs.Prelude.{Option, Some, None}
use Rattle.std.proofs.lemmas.Bool.{false≢true, ltb-true}
use Rattle.std.proofs.lemmas.Nat.{div-mul-add, mod-mul-add}
use Rattle.geo_base.specs.declared.event.Event.{Event}
use Rattle.geo_base.specs.declared.event.Event.TheVariants as event
use Rattle.geo_base.specs.declared.packet.Packet.{Packet}
use Rattle.geo_base.specs.declared.packet.Peer.{Peer}
use Rattle.geo_base.specs.declared.packet.Peer.TheVariants as peer
use Rattle.geo_base.specs.Broker.{Broker}
use Rattle.geo_base.specs.Client.{Client}
use Rattle.geo_base.specs.History.{HappensAt, RecordedEvent, Replays, SentPacket, is_input, state_after}
use Rattle.geo_base.specs.NodeState.{BrokerState, ClientState, NodeState, takes_from}
use Rattle.geo_base.specs.Nodes.{BrokerNode, ClientNode, Node, broker_count, is_event, is_node, is_peer, node_number, node_of}
use Rattle.geo_base.specs.Planned.{in_range}
use Rattle.geo_base.specs.Setup.{Setup}
use Rattle.geo_base.specs.World.{node}
use Rattle.world_laws.proofs.Merges.ClientPeers.{went, went_once}
use Rattle.world_laws.proofs.Merges.ClientPeers.{cluster_of as their_cluster}
use Rattle.world_laws.proofs.Merges.Crossings.{ToPeers as AllToPeers}
use Rattle.world_laws.proofs.Merges.Roles.{Role, role_next}
use Rattle.world_laws.proofs.Replicating.Sizes.{node_lt}
use Rattle.world_laws.proofs.Walks.Walk.{left, right}
use Rattle.world_laws.specs.ByteHistories.{ByteSent, SentStand, StandAll}
use Rattle.wire_ends.specs.declared.packet.WirePacket.{WirePacket}
use Rattle.merge_history.specs.Kept.{Kept}
use Rattle.merge_history.specs.Ends.{IsFromPeer, SendsToPeers, TakesFromPeers, ToPeers}
use Rattle.merge_history.specs.Peers.{cluster_of, cluster_then, peer_taken}

-- ---- nodes have one number each
same_pair : (w a b c d : ℕ) → b < w → d < w → a * w + b ≡ c * w + d → (a ≡ c) × (b ≡ d)
same_pair w a b c d lt lt' is = (
  sym (div-mul-add a w b lt) ∙ (ap (λ (n : ℕ). n / w) is ∙ div-mul-add c w d lt'),
  sym (mod-mul-add a w b lt) ∙ (ap (λ (n : ℕ). n % w) is ∙ mod-mul-add c w d lt'),
)

pub broker_below : (s : Setup) (t x : ℕ) → is_node s (BrokerNode t x) ≡ true → node s t x < broker_count s
broker_below s t x h =
    node_lt s t x (ltb-true _ _ (left (nat_lt t (length s.topics)) (nat_lt x (length s.clusters)) h), ltb-true _ _ (right (nat_lt t (length s.topics)) (nat_lt x (length s.clusters)) h))

pub one_node : (s : Setup) (m n : Node) → is_node s m ≡ true → is_node s n ≡ true → node_number s m ≡ node_number s n → m ≡ n
one_node s (BrokerNode t x) (BrokerNode u y) h k is =
    let lt = ltb-true _ _ (right (nat_lt t (length s.topics)) (nat_lt x (length s.clusters)) h) in
    let lt' = ltb-true _ _ (right (nat_lt u (length s.topics)) (nat_lt y (length s.clusters)) k) in
    let same = same_pair (length s.clusters) t x u y lt lt' is in
    ap (λ (i : ℕ). BrokerNode i x) same.0 ∙ ap (λ (i : ℕ). BrokerNode u i) same.1
one_node s (BrokerNode t x) (ClientNode c) h k is = let lt = broker_below s t x h in absurd (omega (arith, lt, is))
one_node s (ClientNode c) (BrokerNode t x) h k is = let lt = broker_below s t x k in absurd (omega (arith, lt, is))
one_node s (ClientNode c) (ClientNode d) h k is = ap (λ (i : ℕ). ClientNode i) (omega (arith, is))

-- ---- one event
at_node : (s : Setup) (at : Node) (e : Event) → is_node s at ≡ true → node_number s (node_of s e) ≡ node_number s at → is_event s e ≡ true → node_of s e ≡ at
at_node s at e there here range = one_node s (node_of s e) at (right (in_range s e) (is_node s (node_of s e)) range) there here

sends_same : (R : WirePacket → Packet → Type 0) (s : Setup) (at : Node) (bs : List (ByteSent WirePacket)) (os : List SentPacket) → SentStand R bs os → AllToPeers s at os
    → ToPeers s at bs
sends_same R s at [] [] h k = tt
sends_same R s at [] (o ∷ os) h k = absurd h
sends_same R s at (b ∷ bs) [] h k = absurd h
sends_same R s at (b ∷ bs) (o ∷ os) h k = (subst (λ (q : Peer). is_peer s at q ≡ true) h.0.0 k.0, sends_same R s at bs os h.1 k.1)

same_cluster : (x : ℕ) (q : Peer) → their_cluster x q ≡ cluster_of x q
same_cluster x (peer.Forward y) = refl
same_cluster x (peer.Back y) = refl
same_cluster x (peer.Client y) = refl
same_cluster x (peer.Broker y) = refl

went_same : (R : WirePacket → Packet → Type 0) (x : ℕ) (bs : List (ByteSent WirePacket)) (os : List SentPacket) → SentStand R bs os → went x os ≡ cluster_then x bs
went_same R x [] [] h = refl
went_same R x [] (o ∷ os) h = absurd h
went_same R x (b ∷ bs) [] h = absurd h
went_same R x (b ∷ bs) (o ∷ os) h =
    ap (λ (q : Peer). went (their_cluster x q) os) h.0.0
    ∙ (ap (λ (y : ℕ). went y os) (same_cluster x b.to) ∙ went_same R (cluster_of x b.to) bs os h.1)

-- ---- what is sent goes to peers
pub sends_to_peers : (R : WirePacket → Packet → Type 0) (s : Setup) (at : Node) (st : NodeState) (clock : ℕ) (xs : List Kept) (ds : List RecordedEvent) → is_node s at ≡ true
    → Role s (node_number s at) st → StandAll R xs ds → Replays s (node_number s at) st clock ds → SendsToPeers s at xs
sends_to_peers R s at st clock [] [] there role h r = tt
sends_to_peers R s at st clock [] (d ∷ ds) there role h r = absurd h
sends_to_peers R s at st clock (x ∷ xs) [] there role h r = absurd h
sends_to_peers R s at st clock (x ∷ xs) (d ∷ ds) there role h r =
    let next = role_next s (node_number s at) st clock d role r.0 in
    let own : node_of s d.event ≡ at = at_node s at d.event there r.0.here r.0.in_range in
    let own' : node_of s x.event ≡ at = ap (node_of s) (sym h.0.event) ∙ own in (
      (own', sends_same R s at x.sent d.sent h.0.sent (subst (λ (n : Node). AllToPeers s n d.sent) own next.peers)),
      sends_to_peers R s at (state_after s st d) d.stamp xs ds there next.role h.1 r.1,
    )

-- ---- what is taken comes from peers
-- a broker, or a client that is at x
pub data IsAtCluster (s : Setup) (n x : ℕ) : NodeState → Type 0 where
  AsBroker : (b : Broker) → n < broker_count s → IsAtCluster s n x (BrokerState b)
  AsClient : (k : Client) → k.cluster ≡ x → IsAtCluster s n x (ClientState k)

of_client : (s : Setup) (x : ℕ) (k : Client) (e : Event) → k.cluster ≡ x → takes_from (ClientState k) e ≡ peer_taken x e
of_client s x k (event.Get c) is = ap (λ (y : ℕ). Some (peer.Broker y)) is
of_client s x k (event.Go c) is = refl
of_client s x k (event.Reconnect c) is = refl
of_client s x k (event.Serve y c) is = refl
of_client s x k (event.Drop y c) is = refl
of_client s x k (event.Reset t y z) is = refl
of_client s x k (event.Read t y z) is = refl
of_client s x k (event.Take t y z f) is = refl
of_client s x k (event.Receipt t y z f) is = refl
of_client s x k (event.Snap t y) is = refl
of_client s x k (event.Offer t y n) is = refl
of_client s x k (event.Seek t y n to) is = refl
of_client s x k (event.Restart t y) is = refl

of_broker : (s : Setup) (x n : ℕ) (b : Broker) (e : Event) → n < broker_count s → node_number s (node_of s e) ≡ n → takes_from (BrokerState b) e ≡ peer_taken x e
of_broker s x n b (event.Get c) lt here = absurd (omega (arith, lt, here))
of_broker s x n b (event.Go c) lt here = refl
of_broker s x n b (event.Reconnect c) lt here = refl
of_broker s x n b (event.Serve y c) lt here = refl
of_broker s x n b (event.Drop y c) lt here = refl
of_broker s x n b (event.Reset t y z) lt here = refl
of_broker s x n b (event.Read t y z) lt here = refl
of_broker s x n b (event.Take t y z f) lt here = refl
of_broker s x n b (event.Receipt t y z f) lt here = refl
of_broker s x n b (event.Snap t y) lt here = refl
of_broker s x n b (event.Offer t y i) lt here = refl
of_broker s x n b (event.Seek t y i to) lt here = refl
of_broker s x n b (event.Restart t y) lt here = refl

told_alike : (s : Setup) (n x : ℕ) (st : NodeState) (e : Event) → IsAtCluster s n x st → node_number s (node_of s e) ≡ n → takes_from st e ≡ peer_taken x e
told_alike s n x st e (IsAtCluster.AsBroker b lt) here = of_broker s x n b e lt here
told_alike s n x st e (IsAtCluster.AsClient k is) here = of_client s x k e is

from_peer : (s : Setup) (n : Node) (q : Option Peer) (p : Option Packet) → is_input s n q p ≡ true → IsFromPeer s n q
from_peer s n None p h = tt
from_peer s n (Some q) None h = absurd (false≢true h)
from_peer s n (Some q) (Some p) h = h

at_next : (R : WirePacket → Packet → Type 0) (s : Setup) (n x clock : ℕ) (st : NodeState) (y : Kept) (d : RecordedEvent) → IsAtCluster s n x st → HappensAt s n st clock d
    → SentStand R y.sent d.sent → IsAtCluster s n (cluster_then x y.sent) (state_after s st d)
at_next R s n x clock st y d (IsAtCluster.AsBroker b lt) h sent = IsAtCluster.AsBroker _ lt
at_next R s n x clock st y d (IsAtCluster.AsClient k is) h sent =
    IsAtCluster.AsClient _
    (went_once s n k clock d h ∙ (went_same R k.cluster y.sent d.sent sent ∙ ap (λ (z : ℕ). cluster_then z y.sent) is))

pub takes_from_peers : (R : WirePacket → Packet → Type 0) (s : Setup) (at : Node) (x : ℕ) (st : NodeState) (clock : ℕ) (xs : List Kept) (ds : List RecordedEvent)
    → is_node s at ≡ true → IsAtCluster s (node_number s at) x st → StandAll R xs ds → Replays s (node_number s at) st clock ds → TakesFromPeers s at x st xs ds
takes_from_peers R s at x st clock [] ds there is h r = tt
takes_from_peers R s at x st clock (y ∷ xs) [] there is h r = absurd h
takes_from_peers R s at x st clock (y ∷ xs) (d ∷ ds) there is h r =
    let n = node_number s at in
    let own : node_of s d.event ≡ at = at_node s at d.event there r.0.here r.0.in_range in
    let own' : node_of s y.event ≡ at = ap (node_of s) (sym h.0.event) ∙ own in
    let alike : takes_from st d.event ≡ peer_taken x d.event = told_alike s n x st d.event is r.0.here in
    let from : IsFromPeer s at (peer_taken x d.event) =
    subst (IsFromPeer s at) alike (subst (λ (m : Node). IsFromPeer s m (takes_from st d.event)) own (from_peer s (node_of s d.event) (takes_from st d.event) d.taken r.0.input)) in (
      (own', (subst (λ (e : Event). takes_from st e ≡ peer_taken x e) h.0.event alike, subst (λ (e : Event). IsFromPeer s at (peer_taken x e)) h.0.event from)),
      takes_from_peers R s at (cluster_then x y.sent) (state_after s st d) d.stamp xs ds there (at_next R s n x clock st y d is r.0 h.0.sent) h.1 r.1,
    )
