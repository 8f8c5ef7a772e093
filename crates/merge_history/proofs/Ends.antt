-- Links by peers: what a history sent on a link and took from one is what it sent to a peer and took from one.
use Rattle.std.proofs.Common.{◌≡◌, ℕ, ◌+◌, Bool, true, false, List, [], ◌∷◌, ◌++◌, refl, sym, ap, ◌∙◌, ◌==◌, arith}
use Rattle.std.specs.Prelude.{◌&&◌, if◌then◌else◌, Option, Some, None}
use Rattle.std.proofs.lemmas.Bool.{eqb-true, eq-eqb, false≢true}
use Rattle.geo_base.specs.declared.packet.Peer.{Peer}
use Rattle.geo_base.specs.declared.packet.Peer.TheVariants as peer
use Rattle.geo_base.specs.History.{RecordedEvent, state_after}
use Rattle.geo_base.specs.NodeState.{NodeState, takes_from}
use Rattle.geo_base.specs.Nodes.{BrokerNode, ClientNode, Node, is_peer, link_from, link_to, same_link}
use Rattle.geo_base.specs.Setup.{Setup}
use Rattle.world_laws.specs.ByteHistories.{ByteSent, bytes_sent_in, bytes_sent_over, bytes_taken_in, bytes_taken_over}
use Rattle.wire_ends.specs.declared.packet.WirePacket.{WirePacket}
use Rattle.merge_history.specs.Kept.{Kept}
use Rattle.merge_history.specs.Ends.{IsFromPeer, SendsToPeers, TakesFromPeers, ToPeers, other_end}
use Rattle.merge_history.specs.Peers.{cluster_then, peer_taken, same_peer, sent_once, sent_to, taken_from, taken_once}

-- ---- a node has one link to each of its peers, and one from it
pub self_and : (n : ℕ) (b : Bool) → ((n == n) && b) ≡ b
self_and n b = ap (λ (t : Bool). t && b) (eq-eqb n n refl)

pub and_self : (n : ℕ) (b : Bool) → (b && (n == n)) ≡ b
and_self n b = ap (λ (t : Bool). b && t) (eq-eqb n n refl) ∙ by b
  where
    by : (b : Bool) → (b && true) ≡ b
    by true = refl
    by false = refl

pub add_same : (k y z : ℕ) → (k + y == k + z) ≡ (y == z)
add_same k y z = by (y == z) refl
  where
    other : (t : Bool) → (k + y == k + z) ≡ t → (y == z) ≡ false → t ≡ false
    other true e e' = let is = eqb-true (k + y) (k + z) e in absurd (false≢true (sym e' ∙ eq-eqb y z (omega (arith, is))))
    other false e e' = refl

    by : (t : Bool) → (y == z) ≡ t → (k + y == k + z) ≡ t
    by true e = eq-eqb _ _ (ap (λ (i : ℕ). k + i) (eqb-true y z e))
    by false e = other (k + y == k + z) refl e

pub sends_same : (s : Setup) (n : Node) (p q : Peer) → is_peer s n p ≡ true → is_peer s n q ≡ true → same_link (link_to s n p) (link_to s n q) ≡ same_peer p q
sends_same s (BrokerNode t x) (peer.Forward y) (peer.Forward z) h k = self_and _ (y == z)
sends_same s (BrokerNode t x) (peer.Forward y) (peer.Back z) h k = refl
sends_same s (BrokerNode t x) (peer.Forward y) (peer.Client z) h k = refl
sends_same s (BrokerNode t x) (peer.Back y) (peer.Forward z) h k = refl
sends_same s (BrokerNode t x) (peer.Back y) (peer.Back z) h k = and_self x _ ∙ add_same _ y z
sends_same s (BrokerNode t x) (peer.Back y) (peer.Client z) h k = refl
sends_same s (BrokerNode t x) (peer.Client y) (peer.Forward z) h k = refl
sends_same s (BrokerNode t x) (peer.Client y) (peer.Back z) h k = refl
sends_same s (BrokerNode t x) (peer.Client y) (peer.Client z) h k = and_self x (y == z)
sends_same s (BrokerNode t x) (peer.Broker y) q h k = absurd (false≢true h)
sends_same s (BrokerNode t x) p (peer.Broker z) h k = absurd (false≢true k)
sends_same s (ClientNode c) (peer.Broker y) (peer.Broker z) h k = self_and c (y == z)
sends_same s (ClientNode c) (peer.Broker y) (peer.Forward z) h k = absurd (false≢true k)
sends_same s (ClientNode c) (peer.Broker y) (peer.Back z) h k = absurd (false≢true k)
sends_same s (ClientNode c) (peer.Broker y) (peer.Client z) h k = absurd (false≢true k)
sends_same s (ClientNode c) (peer.Forward y) q h k = absurd (false≢true h)
sends_same s (ClientNode c) (peer.Back y) q h k = absurd (false≢true h)
sends_same s (ClientNode c) (peer.Client y) q h k = absurd (false≢true h)

pub takes_same : (s : Setup) (n : Node) (p q : Peer) → is_peer s n p ≡ true → is_peer s n q ≡ true → same_link (link_from s n p) (link_from s n q) ≡ same_peer p q
takes_same s (BrokerNode t x) (peer.Forward y) (peer.Forward z) h k = self_and _ (y == z)
takes_same s (BrokerNode t x) (peer.Forward y) (peer.Back z) h k = refl
takes_same s (BrokerNode t x) (peer.Forward y) (peer.Client z) h k = refl
takes_same s (BrokerNode t x) (peer.Back y) (peer.Forward z) h k = refl
takes_same s (BrokerNode t x) (peer.Back y) (peer.Back z) h k = and_self x _ ∙ add_same _ y z
takes_same s (BrokerNode t x) (peer.Back y) (peer.Client z) h k = refl
takes_same s (BrokerNode t x) (peer.Client y) (peer.Forward z) h k = refl
takes_same s (BrokerNode t x) (peer.Client y) (peer.Back z) h k = refl
takes_same s (BrokerNode t x) (peer.Client y) (peer.Client z) h k = and_self x (y == z)
takes_same s (BrokerNode t x) (peer.Broker y) q h k = absurd (false≢true h)
takes_same s (BrokerNode t x) p (peer.Broker z) h k = absurd (false≢true k)
takes_same s (ClientNode c) (peer.Broker y) (peer.Broker z) h k = self_and c (y == z)
takes_same s (ClientNode c) (peer.Broker y) (peer.Forward z) h k = absurd (false≢true k)
takes_same s (ClientNode c) (peer.Broker y) (peer.Back z) h k = absurd (false≢true k)
takes_same s (ClientNode c) (peer.Broker y) (peer.Client z) h k = absurd (false≢true k)
takes_same s (ClientNode c) (peer.Forward y) q h k = absurd (false≢true h)
takes_same s (ClientNode c) (peer.Back y) q h k = absurd (false≢true h)
takes_same s (ClientNode c) (peer.Client y) q h k = absurd (false≢true h)

-- ---- the other end of a link
-- what a node takes from, its peer sends on
pub one_link : (s : Setup) (n : Node) (q : Peer) → is_peer s n q ≡ true → link_from s n q ≡ link_to s (other_end s n q).node (other_end s n q).peer
one_link s (BrokerNode t x) (peer.Forward y) h = refl
one_link s (BrokerNode t x) (peer.Back y) h = refl
one_link s (BrokerNode t x) (peer.Client c) h = refl
one_link s (BrokerNode t x) (peer.Broker y) h = absurd (false≢true h)
one_link s (ClientNode c) (peer.Broker x) h = refl
one_link s (ClientNode c) (peer.Forward x) h = absurd (false≢true h)
one_link s (ClientNode c) (peer.Back x) h = absurd (false≢true h)
one_link s (ClientNode c) (peer.Client x) h = absurd (false≢true h)

-- ---- histories of one node
sent_once_same : (s : Setup) (n : Node) (q : Peer) (os : List (ByteSent WirePacket)) → is_peer s n q ≡ true → ToPeers s n os
    → bytes_sent_over s (link_to s n q) n os ≡ sent_once q os
sent_once_same s n q [] h peers = refl
sent_once_same s n q (o ∷ os) h peers =
    ap (λ (t : Bool). if t then o.packet ∷ bytes_sent_over s (link_to s n q) n os else bytes_sent_over s (link_to s n q) n os) (sends_same s n o.to q peers.0 h)
    ∙ ap (λ (bs : List WirePacket). if same_peer o.to q then o.packet ∷ bs else bs) (sent_once_same s n q os h peers.1)

pub sent_same : (s : Setup) (n : Node) (q : Peer) (ds : List Kept) → is_peer s n q ≡ true → SendsToPeers s n ds → bytes_sent_in s (link_to s n q) ds ≡ sent_to q ds
sent_same s n q [] h peers = refl
sent_same s n q (d ∷ ds) h peers =
    ap (λ (m : Node). bytes_sent_over s (link_to s n q) m d.sent ++ bytes_sent_in s (link_to s n q) ds) peers.0.0
    ∙ (ap (λ (bs : List WirePacket). bs ++ bytes_sent_in s (link_to s n q) ds) (sent_once_same s n q d.sent h peers.0.1)
    ∙ ap (λ (bs : List WirePacket). sent_once q d.sent ++ bs) (sent_same s n q ds h peers.1))

taken_once_same : (s : Setup) (n : Node) (q : Peer) (p : Option Peer) (b : Option WirePacket) → is_peer s n q ≡ true → IsFromPeer s n p
    → bytes_taken_over s (link_from s n q) n p b ≡ taken_once q p b
taken_once_same s n q None None h peers = refl
taken_once_same s n q None (Some b) h peers = refl
taken_once_same s n q (Some p) None h peers = refl
taken_once_same s n q (Some p) (Some b) h peers = ap (λ (t : Bool). if t then b ∷ [] else []) (takes_same s n p q peers h)

pub taken_same : (s : Setup) (n : Node) (q : Peer) (x : ℕ) (st : NodeState) (xs : List Kept) (ds : List RecordedEvent) → is_peer s n q ≡ true
    → TakesFromPeers s n x st xs ds → bytes_taken_in s (link_from s n q) st xs ds ≡ taken_from q x xs
taken_same s n q x st [] ds h peers = refl
taken_same s n q x st (d ∷ xs) [] h peers = absurd peers
taken_same s n q x st (d ∷ xs) (v ∷ ds) h peers =
    let k = link_from s n q in let more = bytes_taken_in s k (state_after s st v) xs ds in
    ap (λ (m : Node). bytes_taken_over s k m (takes_from st d.event) d.taken ++ more) peers.0.0
    ∙ (ap (λ (p : Option Peer). bytes_taken_over s k n p d.taken ++ more) peers.0.1.0
    ∙ (ap (λ (bs : List WirePacket). bs ++ more) (taken_once_same s n q (peer_taken x d.event) d.taken h peers.0.1.1)
    ∙ ap (λ (bs : List WirePacket). taken_once q (peer_taken x d.event) d.taken ++ bs) (taken_same s n q (cluster_then x d.sent) (state_after s st v) xs ds h peers.1)))
