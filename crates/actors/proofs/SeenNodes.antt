-- What a log's state says of its node.
use Rattle.std.proofs.Common.{◌≡◌, ℕ, ◌<◌, ◌≤◌, Bool, true, false, length, refl, ap, ◌==◌, arith}
use Rattle.std.proofs.lemmas.Bool.{lt-ltb}
use Rattle.std.proofs.lemmas.Bool.Decides.{nat_tests}
use Rattle.std.specs.Prelude.{if◌then◌else◌, ◌&&◌, Some, None, nat_lt}
use Rattle.actors.specs.Tries.{cluster_of, has_replicator, is_broker, is_client, is_connected, replicator_to}
use Rattle.actors.specs.declared.role.Link.{Link}
use Rattle.broker.specs.Node.{BrokerView}
use Rattle.geo_base.specs.Broker.{replicator_at}
use Rattle.geo_base.specs.Setup.{Setup}
use Rattle.node_log.specs.declared.state.NodeState.{NodeState as Kept}
use Rattle.node_log.specs.declared.state.NodeState.TheVariants as kept
use Rattle.node_log.specs.declared.state.NumberedClient.{NumberedClient}
use Rattle.node_log.specs.Logs.{NodeLogView, IsStateOf, StateOf}

-- ---- nodes

pub broker_here : {E : Type 0} (b : NodeLogView E) (st : Kept) (v : BrokerView) (t x : ℕ) → StateOf b st → st ≡ kept.Broker v → is_broker b.node t x ≡ ((v.topic == t) && (v.site.own == x))
broker_here b st v t x h is = rw (h.node, is) refl

pub client_elsewhere : {E : Type 0} (b : NodeLogView E) (st : Kept) (k : NumberedClient) (t x : ℕ) → StateOf b st → st ≡ kept.Client k → is_broker b.node t x ≡ false
client_elsewhere b st k t x h is = rw (h.node, is) refl

pub client_here : {E : Type 0} (b : NodeLogView E) (st : Kept) (k : NumberedClient) (c : ℕ) → StateOf b st → st ≡ kept.Client k → is_client b.node c ≡ (k.number == c)
client_here b st k c h is = rw (h.node, is) refl

pub broker_elsewhere : {E : Type 0} (b : NodeLogView E) (st : Kept) (v : BrokerView) (c : ℕ) → StateOf b st → st ≡ kept.Broker v → is_client b.node c ≡ false
broker_elsewhere b st v c h is = rw (h.node, is) refl

pub client_connected : {E : Type 0} (b : NodeLogView E) (st : Kept) (k : NumberedClient) → StateOf b st → st ≡ kept.Client k → is_connected b.state ≡ k.client.connected
client_connected b st k h is = rw (h.state, is) refl

pub broker_unconnected : {E : Type 0} (b : NodeLogView E) (st : Kept) (v : BrokerView) → StateOf b st → st ≡ kept.Broker v → is_connected b.state ≡ false
broker_unconnected b st v h is = rw (h.state, is) refl

pub broker_cluster : {E : Type 0} (b : NodeLogView E) (st : Kept) (v : BrokerView) (t : ℕ) → StateOf b st → st ≡ kept.Broker v → cluster_of b.node t ≡ (if v.topic == t then Some v.site.own else None)
broker_cluster b st v t h is = rw (h.node, is) refl

pub client_cluster : {E : Type 0} (b : NodeLogView E) (st : Kept) (k : NumberedClient) (t : ℕ) → StateOf b st → st ≡ kept.Client k → cluster_of b.node t ≡ None
client_cluster b st k t h is = rw (h.node, is) refl

-- ---- replicators

pub replicator_here : {E : Type 0} (b : NodeLogView E) (l : Link) → is_broker b.node l.topic l.source ≡ true → l.target < length b.scenario.setup.clusters → has_replicator b l ≡ true
replicator_here b l here lt = rw (here, lt-ltb _ _ lt) refl

pub replicator_gone : {E : Type 0} (b : NodeLogView E) (l : Link) → is_broker b.node l.topic l.source ≡ false → has_replicator b l ≡ false
replicator_gone b l away = rw away refl

pub replicator_away : {E : Type 0} (b : NodeLogView E) (l : Link) → length b.scenario.setup.clusters ≤ l.target → has_replicator b l ≡ false
replicator_away b l le = by (is_broker b.node l.topic l.source)
  where
    by : (t : Bool) → (t && nat_lt l.target (length b.scenario.setup.clusters)) ≡ false
    by true = grind (arith, nat_tests, le)
    by false = refl

pub replicator_is : {E : Type 0} (b : NodeLogView E) (st : Kept) (v : BrokerView) (y : ℕ) → StateOf b st → st ≡ kept.Broker v → replicator_to b.state y ≡ replicator_at v.broker y
replicator_is b st v y h is = rw (h.state, is) refl

pub site_clusters : (s : Setup) (st : Kept) (v : BrokerView) → IsStateOf s st → st ≡ kept.Broker v → length v.site.clusters ≡ length s.clusters
site_clusters s st v h is = of (rw is at h)
  where
    of : IsStateOf s (kept.Broker v) → length v.site.clusters ≡ length s.clusters
    of k = ap (λ (g : _). length g.clusters) k.0.site
