-- The other end by number is the other end.
use Rattle.std.proofs.Common.{◌≡◌, ℕ, ◌+◌, ◌-◌, ◌*◌, ◌<◌, ◌/◌, ◌%◌, Bool, true, false, length, refl, sym, ap, subst, ◌∙◌, arith, nat_lt}
use Rattle.std.specs.Prelude.{◌==◌, not}
use Rattle.std.proofs.lemmas.Bool.{eq-eqb, eqb-true, false≢true, ltb-true, lt-ltb}
use Rattle.std.proofs.lemmas.Nat.{div-mul-add, mod-mul-add, mul-add-lt}
use Rattle.std.proofs.Math.Nat.{div-add-mod, div-lt_iff_lt-mul, mod-lt, mul_comm}
use Rattle.geo_base.specs.declared.packet.Peer.{Peer}
use Rattle.geo_base.specs.declared.packet.Peer.TheVariants as peer
use Rattle.geo_base.specs.Nodes.{BrokerNode, ClientNode, Node, broker_count, has_link, is_node, is_peer, node_number}
use Rattle.geo_base.specs.Planned.{has_client, has_node}
use Rattle.geo_base.specs.Setup.{Setup, declared_at}
use Rattle.geo_base.specs.World.{Back, Forward, LinkName, ToBroker, ToClient, node}
use Rattle.world_laws.proofs.Walks.Walk.{left, on_false, on_true, right}
use Rattle.merge_history.specs.declared.packet_layout.FarEnd.{FarEnd}
use Rattle.merge_history.specs.Ends.{IsLayoutOf, LinkEnds, OtherEnd, other_end}
use Rattle.merge_history.specs.Peers.{LayoutView, broker_end, client_end, end_of}
pub use Rattle.geo_base.proofs.Bools.{and_of_both as both_true}

broker_end_of : (l : LayoutView) (t x : ℕ) (q : Peer) → x < l.clusters → t * l.clusters + x < l.brokers → end_of l (t * l.clusters + x) q ≡ broker_end l t x q
broker_end_of l t x q small lt =
    let n = t * l.clusters + x in
    on_true (nat_lt n l.brokers) _ _ (lt-ltb n l.brokers lt)
    ∙ (ap (λ (a : ℕ). broker_end l a (n % l.clusters) q) (div-mul-add t l.clusters x small)
    ∙ ap (λ (b : ℕ). broker_end l t b q) (mod-mul-add t l.clusters x small))

client_end_of : (l : LayoutView) (c : ℕ) (q : Peer) → end_of l (l.brokers + c) q ≡ client_end l c q
client_end_of l c q =
    let e : (l.brokers + c) - l.brokers ≡ c = omega arith in
    on_false (nat_lt (l.brokers + c) l.brokers) _ _ (none (nat_lt (l.brokers + c) l.brokers) refl) ∙ ap (λ (i : ℕ). client_end l i q) e
  where
    none : (t : Bool) → nat_lt (l.brokers + c) l.brokers ≡ t → t ≡ false
    none true e = let lt = ltb-true _ _ e in absurd (omega (arith, lt))
    none false e = refl

abbrev IsEnd : Setup → FarEnd → OtherEnd → Type 0
IsEnd s e o = (e.node ≡ node_number s o.node) × (e.peer ≡ o.peer)

broker_ends : (s : Setup) (l : LayoutView) (t x : ℕ) (q : Peer) → IsLayoutOf s l → is_peer s (BrokerNode t x) q ≡ true
    → IsEnd s (broker_end l t x q) (other_end s (BrokerNode t x) q)
broker_ends s l t x (peer.Forward y) of h = (ap (λ (w : ℕ). t * w + y) of.clusters, refl)
broker_ends s l t x (peer.Back y) of h = (ap (λ (w : ℕ). t * w + y) of.clusters, refl)
broker_ends s l t x (peer.Client c) of h = (ap (λ (b : ℕ). b + c) of.brokers, refl)
broker_ends s l t x (peer.Broker y) of h = absurd (false≢true h)

client_ends : (s : Setup) (l : LayoutView) (c : ℕ) (q : Peer) → IsLayoutOf s l → is_peer s (ClientNode c) q ≡ true
    → IsEnd s (client_end l c q) (other_end s (ClientNode c) q)
client_ends s l c (peer.Broker x) of h =
    (ap (λ (t : ℕ). t * l.clusters + x) (of.homes c) ∙ ap (λ (w : ℕ). (declared_at s c).topic * w + x) of.clusters, refl)
client_ends s l c (peer.Forward x) of h = absurd (false≢true h)
client_ends s l c (peer.Back x) of h = absurd (false≢true h)
client_ends s l c (peer.Client x) of h = absurd (false≢true h)

small_node : (t x topics clusters : ℕ) → t < topics → x < clusters → t * clusters + x < topics * clusters
small_node t x topics clusters lt small = let l = mul-add-lt t clusters x topics lt small in let c = mul_comm topics clusters in omega (arith, l, c)

pub end_is : (s : Setup) (l : LayoutView) (n : Node) (q : Peer) → IsLayoutOf s l → is_node s n ≡ true → is_peer s n q ≡ true
    → ((end_of l (node_number s n) q).node ≡ node_number s (other_end s n q).node) × ((end_of l (node_number s n) q).peer ≡ (other_end s n q).peer)
end_is s l (BrokerNode t x) q of there h =
    let lt = ltb-true _ _ (left (nat_lt t (length s.topics)) (nat_lt x (length s.clusters)) there) in
    let small = ltb-true _ _ (right (nat_lt t (length s.topics)) (nat_lt x (length s.clusters)) there) in
    let within : t * l.clusters + x < l.brokers =
    subst (λ (b : ℕ). t * l.clusters + x < b) (sym of.brokers)
    (subst (λ (w : ℕ). t * w + x < length s.topics * length s.clusters) (sym of.clusters) (small_node t x (length s.topics) (length s.clusters) lt small)) in
    let e : end_of l (t * l.clusters + x) q ≡ broker_end l t x q = broker_end_of l t x q (subst (λ (w : ℕ). x < w) (sym of.clusters) small) within in
    subst (λ (w : ℕ). IsEnd s (end_of l (t * w + x) q) (other_end s (BrokerNode t x) q)) of.clusters
    (subst (λ (d : FarEnd). IsEnd s d (other_end s (BrokerNode t x) q)) (sym e) (broker_ends s l t x q of h))
end_is s l (ClientNode c) q of there h =
    subst (λ (b : ℕ). IsEnd s (end_of l (b + c) q) (other_end s (ClientNode c) q)) of.brokers
    (subst (λ (d : FarEnd). IsEnd s d (other_end s (ClientNode c) q)) (sym (client_end_of l c q)) (client_ends s l c q of h))

-- ---- each link of a setup has its ends

pub not_same : (m n : ℕ) → (m == n) ≡ false → not (m == n) ≡ true
not_same m n e = ap not e

pub other_way : (m n : ℕ) → (m == n) ≡ false → (n == m) ≡ false
other_way m n e = by (n == m) refl
  where
    by : (t : Bool) → (n == m) ≡ t → t ≡ false
    by true e' = absurd (false≢true (sym e ∙ eq-eqb m n (sym (eqb-true n m e'))))
    by false e' = refl

has_topic : (topics clusters m : ℕ) → 0 < clusters → m < topics * clusters → m / clusters < topics
has_topic topics clusters m some lt = (div-lt_iff_lt-mul some).1 lt

pub link_ends : (s : Setup) (k : LinkName) → 0 < length s.clusters → has_link s k ≡ true → LinkEnds s k
link_ends s (Forward m y) some h = by (m % length s.clusters == y) refl
  where
    w : ℕ
    w = length s.clusters

    t : ℕ
    t = m / w

    x : ℕ
    x = m % w

    within : m < broker_count s
    within = ltb-true _ _ (left (nat_lt m (broker_count s)) (nat_lt y w) h)

    node_is : node s t x ≡ m
    node_is = let e = div-add-mod m w in let c = mul_comm t w in omega (arith, e, c)

    topic : nat_lt t (length s.topics) ≡ true
    topic = lt-ltb _ _ (has_topic (length s.topics) w m some within)

    by : (b : Bool) → (x == y) ≡ b → LinkEnds s (Forward m y)
    by true e =
        LinkEnds.ForwardToItself t x (both_true _ _ topic (lt-ltb x w (mod-lt m some)))
        (ap (λ (z : ℕ). Forward m z) (sym (eqb-true x y e)) ∙ ap (λ (n : ℕ). Forward n x) (sym node_is))
    by false e =
        LinkEnds.Shared (BrokerNode t y) (peer.Back x) (both_true _ _ topic (right (nat_lt m (broker_count s)) (nat_lt y w) h))
        (both_true _ _ (lt-ltb x w (mod-lt m some)) (not_same x y e)) (ap (λ (n : ℕ). Forward n y) node_is) refl node_is
link_ends s (Back m y) some h = by (m % length s.clusters == y) refl
  where
    w : ℕ
    w = length s.clusters

    t : ℕ
    t = m / w

    x : ℕ
    x = m % w

    within : m < broker_count s
    within = ltb-true _ _ (left (nat_lt m (broker_count s)) (nat_lt y w) h)

    node_is : node s t x ≡ m
    node_is = let e = div-add-mod m w in let c = mul_comm t w in omega (arith, e, c)

    topic : nat_lt t (length s.topics) ≡ true
    topic = lt-ltb _ _ (has_topic (length s.topics) w m some within)

    by : (b : Bool) → (x == y) ≡ b → LinkEnds s (Back m y)
    by true e =
        LinkEnds.BackToItself t x (both_true _ _ topic (lt-ltb x w (mod-lt m some)))
        (ap (λ (z : ℕ). Back m z) (sym (eqb-true x y e)) ∙ ap (λ (n : ℕ). Back n x) (sym node_is))
    by false e =
        LinkEnds.Shared (BrokerNode t x) (peer.Forward y) (both_true _ _ topic (lt-ltb x w (mod-lt m some)))
        (both_true _ _ (right (nat_lt m (broker_count s)) (nat_lt y w) h) (not_same y x (other_way x y e))) (ap (λ (n : ℕ). Back n y) node_is) node_is refl
link_ends s (ToBroker c x) some h =
    LinkEnds.Shared (BrokerNode (declared_at s c).topic x) (peer.Client c) (right (has_client s c) (has_node s (declared_at s c).topic x) h)
    (both_true _ _ (left (has_client s c) (has_node s (declared_at s c).topic x) h) (eq-eqb _ _ refl)) refl refl refl
link_ends s (ToClient c x) some h =
    LinkEnds.Shared (ClientNode c) (peer.Broker x) (left (has_client s c) (has_node s (declared_at s c).topic x) h)
    (right (has_client s c) (has_node s (declared_at s c).topic x) h) refl refl refl
