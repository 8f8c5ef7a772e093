-- The events of a node, number by number.
use Rattle.std.proofs.Common.{◌≡◌, ℕ, suc, zero, ◌<◌, Bool, true, false, List, [], ◌∷◌, length, refl, sym, ap, subst, arith, nat_lt}
use Rattle.std.specs.Prelude.{◌&&◌, Some, None, slice_get}
use Rattle.std.proofs.lemmas.Bool.{false≢true, lt-ltb, ltb-true}
use Rattle.std.proofs.lemmas.Option.{none-some, slice_get_within}
use Rattle.broker.specs.Events.{CanHappen, IsNodeOf, IsOfNode, IsOfTopic as IsOfTopicNumber, MarkerRises, SeekRises}
use Rattle.broker.specs.Node.{BrokerView}
use Rattle.geo_base.specs.declared.event.Event.{Event}
use Rattle.geo_base.specs.declared.event.Event.TheVariants as event
use Rattle.geo_base.specs.Broker.{Site}
use Rattle.geo_base.specs.NodeState.{BrokerState}
use Rattle.geo_base.specs.Nodes.{BrokerNode, ClientNode, Node, is_node}
use Rattle.geo_base.specs.Planned.{has_client, has_node, has_pair, has_sub, in_range}
use Rattle.geo_base.specs.Setup.{Setup, sub_names}
use Rattle.node_log.specs.Acts.{NumbersFit}
use Rattle.node_log.specs.Owning.{IsAtBroker, IsAtClient, IsOwn}
use Rattle.world_laws.proofs.Walks.Walk.{left, right}

-- ---- names of subscriptions

pub sub_within : {X : Type 0} (xs : List X) (i : ℕ) (x : X) → slice_get xs i ≡ Some x → i < length xs
sub_within xs i x at = slice_get_within xs i x at

pub sub_past : {X : Type 0} (xs : List X) (i : ℕ) → slice_get xs i ≡ None → i < length xs → ⊥
sub_past [] i at lt = omega (arith, lt)
sub_past (x ∷ xs) zero at lt = none-some x (sym at)
sub_past (x ∷ xs) (suc i) at lt = sub_past xs i at (omega (arith, lt))

-- ---- nodes

abbrev topic_in : Node → ℕ
topic_in (BrokerNode t x) = t
topic_in (ClientNode c) = 0

abbrev cluster_in : Node → ℕ
cluster_in (BrokerNode t x) = x
cluster_in (ClientNode c) = 0

abbrev client_in : Node → ℕ
client_in (BrokerNode t x) = 0
client_in (ClientNode c) = c

abbrev is_broker : Node → Bool
is_broker (BrokerNode t x) = true
is_broker (ClientNode c) = false

-- ---- an event of a broker

pub own_at : (s : Setup) (t x : ℕ) (e : Event) → has_node s t x ≡ true → IsAtBroker s t x e → IsOwn s (BrokerNode t x) e
own_at s t x (event.Serve y c) there h = let k = lt-ltb c (length s.clients) h.1.client in let a = left (nat_lt t (length s.topics)) (nat_lt x (length s.clusters)) there in let b = right (nat_lt t (length s.topics)) (nat_lt x (length s.clusters)) there in
    record { here = rw (h.0, h.1.topic) refl; in_range = rw (h.0, h.1.topic, a, b, k) refl }
own_at s t x (event.Drop y c) there h = let k = lt-ltb c (length s.clients) h.1.client in let a = left (nat_lt t (length s.topics)) (nat_lt x (length s.clusters)) there in let b = right (nat_lt t (length s.topics)) (nat_lt x (length s.clusters)) there in
    record { here = rw (h.0, h.1.topic) refl; in_range = rw (h.0, h.1.topic, a, b, k) refl }
own_at s t x (event.Reset u y z) there h = let k = lt-ltb z (length s.clusters) h.1 in let a = left (nat_lt t (length s.topics)) (nat_lt x (length s.clusters)) there in let b = right (nat_lt t (length s.topics)) (nat_lt x (length s.clusters)) there in
    record { here = rw (h.0.0, h.0.1) refl; in_range = rw (h.0.0, h.0.1, a, b, k) refl }
own_at s t x (event.Read u y z) there h = let k = lt-ltb z (length s.clusters) h.1 in let a = left (nat_lt t (length s.topics)) (nat_lt x (length s.clusters)) there in let b = right (nat_lt t (length s.topics)) (nat_lt x (length s.clusters)) there in
    record { here = rw (h.0.0, h.0.1) refl; in_range = rw (h.0.0, h.0.1, a, b, k) refl }
own_at s t x (event.Take u y z f) there h = let k = lt-ltb y (length s.clusters) h.1 in let a = left (nat_lt t (length s.topics)) (nat_lt x (length s.clusters)) there in let b = right (nat_lt t (length s.topics)) (nat_lt x (length s.clusters)) there in
    record { here = rw (h.0.0, h.0.1) refl; in_range = rw (h.0.0, h.0.1, a, b, k) refl }
own_at s t x (event.Receipt u y z f) there h = let k = lt-ltb z (length s.clusters) h.1 in let a = left (nat_lt t (length s.topics)) (nat_lt x (length s.clusters)) there in let b = right (nat_lt t (length s.topics)) (nat_lt x (length s.clusters)) there in
    record { here = rw (h.0.0, h.0.1) refl; in_range = rw (h.0.0, h.0.1, a, b, k) refl }
own_at s t x (event.Snap u y) there h = let a = left (nat_lt t (length s.topics)) (nat_lt x (length s.clusters)) there in let b = right (nat_lt t (length s.topics)) (nat_lt x (length s.clusters)) there in
    record { here = rw (h.0, h.1) refl; in_range = rw (h.0, h.1, a, b) refl }
own_at s t x (event.Offer u y n) there h = let k = lt-ltb n (length (sub_names s u)) h.1 in let a = left (nat_lt t (length s.topics)) (nat_lt x (length s.clusters)) there in let b = right (nat_lt t (length s.topics)) (nat_lt x (length s.clusters)) there in
    record { here = rw (h.0.0, h.0.1) refl; in_range = rw (k, h.0.0, h.0.1, a, b) refl }
own_at s t x (event.Seek u y n to) there h = let k = lt-ltb n (length (sub_names s u)) h.1 in let a = left (nat_lt t (length s.topics)) (nat_lt x (length s.clusters)) there in let b = right (nat_lt t (length s.topics)) (nat_lt x (length s.clusters)) there in
    record { here = rw (h.0.0, h.0.1) refl; in_range = rw (k, h.0.0, h.0.1, a, b) refl }
own_at s t x (event.Restart u y) there h = let a = left (nat_lt t (length s.topics)) (nat_lt x (length s.clusters)) there in let b = right (nat_lt t (length s.topics)) (nat_lt x (length s.clusters)) there in
    record { here = rw (h.0, h.1) refl; in_range = rw (h.0, h.1, a, b) refl }
own_at s t x (event.Go c) there h = absurd h
own_at s t x (event.Get c) there h = absurd h
own_at s t x (event.Reconnect c) there h = absurd h

ranged : (s : Setup) (n : Node) (e : Event) → IsOwn s n e → in_range s e ≡ true
ranged s n e h = left (in_range s e) _ h.in_range

client_ranged : (s : Setup) (y c : ℕ) → (nat_lt y (length s.clusters) && has_client s c) ≡ true → c < length s.clients
client_ranged s y c h = ltb-true _ _ (right (nat_lt y (length s.clusters)) _ h)

pair_ranged : (s : Setup) (u y z : ℕ) → has_pair s u y z ≡ true → z < length s.clusters
pair_ranged s u y z h = ltb-true _ _ (right (has_node s u y) _ h)

source_ranged : (s : Setup) (u y z : ℕ) → has_pair s u y z ≡ true → y < length s.clusters
source_ranged s u y z h = ltb-true _ _ (right (nat_lt u (length s.topics)) _ (left (has_node s u y) _ h))

sub_ranged : (s : Setup) (u y n : ℕ) → has_sub s u y n ≡ true → n < length (sub_names s u)
sub_ranged s u y n h = ltb-true _ _ (right (has_node s u y) _ h)

pub at_own : (s : Setup) (t x : ℕ) (e : Event) → IsOwn s (BrokerNode t x) e → IsAtBroker s t x e
at_own s t x (event.Serve y c) h = (ap cluster_in h.here, record { client = client_ranged s y c (ranged s _ (event.Serve y c) h); topic = ap topic_in h.here })
at_own s t x (event.Drop y c) h = (ap cluster_in h.here, record { client = client_ranged s y c (ranged s _ (event.Drop y c) h); topic = ap topic_in h.here })
at_own s t x (event.Reset u y z) h = ((ap topic_in h.here, ap cluster_in h.here), pair_ranged s u y z (ranged s _ (event.Reset u y z) h))
at_own s t x (event.Read u y z) h = ((ap topic_in h.here, ap cluster_in h.here), pair_ranged s u y z (ranged s _ (event.Read u y z) h))
at_own s t x (event.Take u y z f) h = ((ap topic_in h.here, ap cluster_in h.here), source_ranged s u y z (ranged s _ (event.Take u y z f) h))
at_own s t x (event.Receipt u y z f) h = ((ap topic_in h.here, ap cluster_in h.here), pair_ranged s u y z (ranged s _ (event.Receipt u y z f) h))
at_own s t x (event.Snap u y) h = (ap topic_in h.here, ap cluster_in h.here)
at_own s t x (event.Offer u y n) h = ((ap topic_in h.here, ap cluster_in h.here), sub_ranged s u y n (ranged s _ (event.Offer u y n) h))
at_own s t x (event.Seek u y n to) h = ((ap topic_in h.here, ap cluster_in h.here), sub_ranged s u y n (ranged s _ (event.Seek u y n to) h))
at_own s t x (event.Restart u y) h = (ap topic_in h.here, ap cluster_in h.here)
at_own s t x (event.Go c) h = absurd (false≢true (ap is_broker h.here))
at_own s t x (event.Get c) h = absurd (false≢true (ap is_broker h.here))
at_own s t x (event.Reconnect c) h = absurd (false≢true (ap is_broker h.here))

-- ---- an event of a client

pub own_client : (s : Setup) (c : ℕ) (e : Event) → is_node s (ClientNode c) ≡ true → IsAtClient c e → IsOwn s (ClientNode c) e
own_client s c (event.Go d) there h = record { here = rw h refl; in_range = rw (h, there) refl }
own_client s c (event.Get d) there h = record { here = rw h refl; in_range = rw (h, there) refl }
own_client s c (event.Reconnect d) there h = record { here = rw h refl; in_range = rw (h, there) refl }
own_client s c e there h = absurd h

pub client_own : (s : Setup) (c : ℕ) (e : Event) → IsOwn s (ClientNode c) e → IsAtClient c e
client_own s c (event.Go d) h = ap client_in h.here
client_own s c (event.Get d) h = ap client_in h.here
client_own s c (event.Reconnect d) h = ap client_in h.here
client_own s c (event.Serve y d) h = false≢true (sym (ap is_broker h.here))
client_own s c (event.Drop y d) h = false≢true (sym (ap is_broker h.here))
client_own s c (event.Reset u y z) h = false≢true (sym (ap is_broker h.here))
client_own s c (event.Read u y z) h = false≢true (sym (ap is_broker h.here))
client_own s c (event.Take u y z f) h = false≢true (sym (ap is_broker h.here))
client_own s c (event.Receipt u y z f) h = false≢true (sym (ap is_broker h.here))
client_own s c (event.Snap u y) h = false≢true (sym (ap is_broker h.here))
client_own s c (event.Offer u y n) h = false≢true (sym (ap is_broker h.here))
client_own s c (event.Seek u y n to) h = false≢true (sym (ap is_broker h.here))
client_own s c (event.Restart u y) h = false≢true (sym (ap is_broker h.here))

-- ---- what the broker asks of an event

clusters_of : (s : Setup) (v : BrokerView) → IsNodeOf s v.topic v.site.own v → length v.site.clusters ≡ length s.clusters
clusters_of s v is = ap (λ (h : Site). length h.clusters) is.site

in_site : (s : Setup) (v : BrokerView) (z : ℕ) → IsNodeOf s v.topic v.site.own v → z < length s.clusters → z < length v.site.clusters
in_site s v z is lt = let same = clusters_of s v is in omega (arith, same, lt)

pub of_node : (s : Setup) (v : BrokerView) (e : Event) → IsNodeOf s v.topic v.site.own v → length v.broker.sessions ≡ length s.clients → IsAtBroker s v.topic v.site.own e → IsOfNode v e
of_node s v (event.Serve y c) is sessions h = record { cluster = h.0; client = let lt = h.1.client in omega (arith, sessions, lt) }
of_node s v (event.Drop y c) is sessions h = record { cluster = h.0; client = let lt = h.1.client in omega (arith, sessions, lt) }
of_node s v (event.Reset u y z) is sessions h = record { here = record { topic = h.0.0; cluster = h.0.1 }; other = in_site s v z is h.1 }
of_node s v (event.Read u y z) is sessions h = record { here = record { topic = h.0.0; cluster = h.0.1 }; other = in_site s v z is h.1 }
of_node s v (event.Take u y z f) is sessions h = record { here = record { topic = h.0.0; cluster = h.0.1 }; other = in_site s v y is h.1 }
of_node s v (event.Receipt u y z f) is sessions h = record { here = record { topic = h.0.0; cluster = h.0.1 }; other = in_site s v z is h.1 }
of_node s v (event.Snap u y) is sessions h = record { topic = h.0; cluster = h.1 }
of_node s v (event.Offer u y n) is sessions h = record { topic = h.0.0; cluster = h.0.1 }
of_node s v (event.Seek u y n to) is sessions h = record { topic = h.0.0; cluster = h.0.1 }
of_node s v (event.Restart u y) is sessions h = record { topic = h.0; cluster = h.1 }
of_node s v (event.Go c) is sessions h = absurd h
of_node s v (event.Get c) is sessions h = absurd h
of_node s v (event.Reconnect c) is sessions h = absurd h

pub of_topic : (s : Setup) (t x : ℕ) (e : Event) → IsAtBroker s t x e → IsOfTopicNumber s t e
of_topic s t x (event.Serve y c) h = h.1.topic
of_topic s t x (event.Drop y c) h = h.1.topic
of_topic s t x (event.Reset u y z) h = tt
of_topic s t x (event.Read u y z) h = tt
of_topic s t x (event.Take u y z f) h = tt
of_topic s t x (event.Receipt u y z f) h = tt
of_topic s t x (event.Snap u y) h = tt
of_topic s t x (event.Offer u y n) h = tt
of_topic s t x (event.Seek u y n to) h = tt
of_topic s t x (event.Restart u y) h = tt
of_topic s t x (event.Go c) h = tt
of_topic s t x (event.Get c) h = tt
of_topic s t x (event.Reconnect c) h = tt

-- an event that the broker refuses, though it is its own, has a number without room
pub no_number : (s : Setup) (v : BrokerView) (e : Event) → IsNodeOf s v.topic v.site.own v → length v.broker.sessions ≡ length s.clients → IsAtBroker s v.topic v.site.own e
    → (CanHappen v e → ⊥) → NumbersFit s (BrokerNode v.topic v.site.own) (BrokerState v.broker) e → ⊥
no_number s v e is sessions at refused fit =
    refused (record {
      node = of_node s v e is sessions at;
      numbers = record {
        session = fit.session;
        seeks = subst (λ (ns : List (List ℕ)). SeekRises ns v.broker e) (sym is.names) fit.seeks;
        marker = subst (λ (h : Site). MarkerRises h v.broker e) (sym is.site) fit.marker;
      };
    })
