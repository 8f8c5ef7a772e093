-- The number of a node has 32 bits.
use Rattle.std.proofs.Common.{◌≡◌, ℕ, ◌+◌, ◌^◌, ◌<◌, true, length, sym, ap, subst, ◌∙◌, arith, nat_lt}
use Rattle.std.proofs.lemmas.Bool.{ltb-true}
use Rattle.broker.specs.Node.{BrokerView}
use Rattle.geo_base.specs.Nodes.{broker_count, is_node, node_number}
use Rattle.geo_base.specs.Scripted.{IsScripted}
use Rattle.geo_base.specs.Setup.{Setup}
use Rattle.geo_base.specs.World.{node}
use Rattle.node_log.specs.declared.state.NodeState.{NodeState as Kept}
use Rattle.node_log.specs.declared.state.NodeState.TheVariants as kept
use Rattle.node_log.specs.declared.state.NumberedClient.{NumberedClient}
use Rattle.node_log.specs.Logs.{node_in}
use Rattle.world_laws.proofs.Merges.FewNodes.{few_brokers, few_clients}
use Rattle.world_laws.proofs.Replicating.Sizes.{node_lt}
use Rattle.world_laws.proofs.Walks.Walk.{left, right}

pub broker_fits : (s : Setup) (t x : ℕ) → IsScripted s → t < length s.topics → x < length s.clusters → node s t x < 2 ^ 32
broker_fits s t x scripted lt lx =
    let within : node s t x < broker_count s = node_lt s t x (lt, lx) in let few = few_brokers s scripted in
    omega (arith, within, few)

pub client_fits : (s : Setup) (c : ℕ) → IsScripted s → c < length s.clients → broker_count s + c < 2 ^ 32
client_fits s c scripted lt =
    let few = few_brokers s scripted in let most = few_clients s scripted in
    omega (arith, lt, few, most)

-- ---- the node of a state

at_broker : (s : Setup) (st : Kept) (v : BrokerView) → is_node s (node_in st) ≡ true → st ≡ kept.Broker v → is_node s (node_in (kept.Broker v)) ≡ true
at_broker s st v there is = subst (λ (t : Kept). is_node s (node_in t) ≡ true) is there

pub topic_there : (s : Setup) (st : Kept) (v : BrokerView) (t : ℕ) → is_node s (node_in st) ≡ true → st ≡ kept.Broker v → t ≡ v.topic → t < length s.topics
topic_there s st v t there is same =
    let lt : v.topic < length s.topics = ltb-true v.topic (length s.topics) (left (nat_lt v.topic (length s.topics)) (nat_lt v.site.own (length s.clusters)) (at_broker s st v there is)) in
    omega (arith, same, lt)

pub cluster_there : (s : Setup) (st : Kept) (v : BrokerView) (x : ℕ) → is_node s (node_in st) ≡ true → st ≡ kept.Broker v → x ≡ v.site.own → x < length s.clusters
cluster_there s st v x there is same =
    let lt : v.site.own < length s.clusters = ltb-true v.site.own (length s.clusters) (right (nat_lt v.topic (length s.topics)) (nat_lt v.site.own (length s.clusters)) (at_broker s st v there is)) in
    omega (arith, same, lt)

pub client_there : (s : Setup) (st : Kept) (c : NumberedClient) → is_node s (node_in st) ≡ true → st ≡ kept.Client c → c.number < length s.clients
client_there s st c there is = ltb-true c.number (length s.clients) (subst (λ (t : Kept). is_node s (node_in t) ≡ true) is there)

pub broker_number : (s : Setup) (st : Kept) (v : BrokerView) (t x r : ℕ) → st ≡ kept.Broker v → t ≡ v.topic → x ≡ v.site.own → r ≡ node s t x → r ≡ node_number s (node_in st)
broker_number s st v t x r is topic own number =
    number ∙ ap (λ (u : ℕ). node s u x) topic ∙ ap (λ (y : ℕ). node s v.topic y) own ∙ ap (λ (u : Kept). node_number s (node_in u)) (sym is)

pub client_number : (s : Setup) (st : Kept) (c : NumberedClient) (r : ℕ) → st ≡ kept.Client c → r ≡ broker_count s + c.number → r ≡ node_number s (node_in st)
client_number s st c r is number = number ∙ ap (λ (u : Kept). node_number s (node_in u)) (sym is)
