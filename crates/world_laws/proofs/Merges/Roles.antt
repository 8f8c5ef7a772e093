-- What a node's history leaves in its state: whatever it does next, it sends to its peers alone. A setup is a script's.
use Rattle.std.proofs.Common.{◌≡◌, ℕ, ◌+◌, ◌-◌, ◌<◌, Bool, true, false, List, [], ◌∷◌, length, map, refl, sym, subst, ◌∙◌, arith, nat_lt}
use Rattle.std.specs.Prelude.{if◌then◌else◌, Option}
use Rattle.std.proofs.lemmas.Bool.{ltb-false, ltb-true}
use Rattle.world_laws.proofs.Types.{Event, Out, Packet}
use Rattle.geo_base.specs.Broker.{Broker, new_broker}
use Rattle.geo_base.specs.Client.{Client, new_client}
use Rattle.geo_base.specs.Happening.{client_acted}
use Rattle.geo_base.specs.History.{HappensAt, RecordedEvent, Replays, is_input, replayed, sent_with, state_after}
use Rattle.geo_base.specs.NodeState.{BrokerState, ClientState, NodeState, acts, opening_state, takes_from}
use Rattle.geo_base.specs.Nodes.{BrokerNode, ClientNode, Node, broker_count, is_event, is_node, is_peer, node_count, node_number, node_of}
use Rattle.geo_base.specs.Planned.{in_range}
use Rattle.geo_base.specs.Scripted.{IsScripted}
use Rattle.geo_base.specs.Setup.{Setup, declared_at}
use Rattle.world_laws.proofs.Merges.ClientRoams.{IsCluster, IsGood, client_peers, client_roams, good_client, its_node}
use Rattle.world_laws.proofs.Merges.Crossings.{ToPeers}
use Rattle.world_laws.proofs.Replicating.Effects.{Each}
use Rattle.world_laws.proofs.Merges.Peers.{ServedAt, next_peered}
use Rattle.world_laws.proofs.Replicating.Sizes.{node_lt}
use Rattle.world_laws.proofs.Walks.Walk.{left, right}

pub data Role (s : Setup) (n : ℕ) : NodeState → Type 0 where
  OfBroker : (b : Broker) → n < broker_count s → ServedAt s n b → Role s n (BrokerState b)
  OfClient : (c : ℕ) (k : Client) → n ≡ broker_count s + c → IsGood s (declared_at s c) → IsCluster s k.cluster → Role s n (ClientState k)

sent_to : (s : Setup) (at : Node) (stamp : ℕ) (os : List Out) → Each (λ (o : Out). is_peer s at o.to ≡ true) os → ToPeers s at (map (sent_with stamp) os)
sent_to s at stamp [] h = tt
sent_to s at stamp (o ∷ os) h = (h.0, sent_to s at stamp os h.1)

-- whatever the node does in this state goes to its peers
pub role_sends : (s : Setup) (n : ℕ) (st : NodeState) (e : Event) (p : Option Packet) → Role s n st → node_number s (node_of s e) ≡ n → is_event s e ≡ true
    → is_input s (node_of s e) (takes_from st e) p ≡ true → Each (λ (o : Out). is_peer s (node_of s e) o.to ≡ true) (acts s st e p).sent
role_sends s n st e p (Role.OfBroker b lt served) here range took =
    (next_peered s n b e p lt served (record { here = here; in_range = range; took = took })).sends
role_sends s n st e p (Role.OfClient c k is good v) here range took =
    subst (λ (at : Node). Each (λ (o : Out). is_peer s at o.to ≡ true) (client_acted s k e p).sent) (sym (its_node s e c (here ∙ is) range))
    (client_peers s c k e p good v (here ∙ is) range)

pub record Doing (s : Setup) (n : ℕ) (st : NodeState) (d : RecordedEvent) : Type 0 where
  pub peers : ToPeers s (node_of s d.event) d.sent
  pub role : Role s n (state_after s st d)

role_after : (s : Setup) (n : ℕ) (st : NodeState) (clock : ℕ) (d : RecordedEvent) → Role s n st → HappensAt s n st clock d → Role s n (state_after s st d)
role_after s n st clock d (Role.OfBroker b lt served) h =
    Role.OfBroker _ lt (next_peered s n b d.event d.taken lt served (record { here = h.here; in_range = h.in_range; took = h.input })).after
role_after s n st clock d (Role.OfClient c k is good v) h =
    Role.OfClient c _ is good (client_roams s k d.event d.taken c (its_node s d.event c (h.here ∙ is) h.in_range) good.lines v).cluster

pub role_next : (s : Setup) (n : ℕ) (st : NodeState) (clock : ℕ) (d : RecordedEvent) → Role s n st → HappensAt s n st clock d → Doing s n st d
role_next s n st clock d r h = record {
  peers = subst (ToPeers s (node_of s d.event)) (sym h.sent)
      (sent_to s (node_of s d.event) d.stamp (acts s st d.event d.taken).sent (role_sends s n st d.event d.taken r h.here h.in_range h.input));
  role = role_after s n st clock d r h;
}

pub replays_role : (s : Setup) (n : ℕ) (st : NodeState) (clock : ℕ) (ds : List RecordedEvent) → Role s n st → Replays s n st clock ds → Role s n (replayed s st ds)
replays_role s n st clock [] r h = r
replays_role s n st clock (d ∷ ds) r h = replays_role s n (state_after s st d) d.stamp ds (role_after s n st clock d r h.0) h.1

-- the node of an event is one of the setup
pub number_lt : (s : Setup) (e : Event) → is_event s e ≡ true → node_number s (node_of s e) < node_count s
number_lt s e h = by (node_of s e) (right (in_range s e) _ h)
  where
    by : (n : Node) → is_node s n ≡ true → node_number s n < node_count s
    by (BrokerNode t x) there =
        let lt = node_lt s t x (ltb-true _ _ (left (nat_lt t (length s.topics)) _ there), ltb-true _ _ (right (nat_lt t (length s.topics)) _ there)) in
        omega (arith, lt)
    by (ClientNode c) there = let lt = ltb-true c (length s.clients) there in omega (arith, lt)

pub opening_role : (s : Setup) (n : ℕ) → IsScripted s → n < node_count s → Role s n (opening_state s n)
opening_role s n scripted lt = by (nat_lt n (broker_count s)) refl
  where
    by : (b : Bool) → nat_lt n (broker_count s) ≡ b
        → Role s n (if b then BrokerState (new_broker (length s.clusters) (length s.clients)) else ClientState (new_client (declared_at s (n - broker_count s))))
    by true e = Role.OfBroker (new_broker (length s.clusters) (length s.clients)) (ltb-true n (broker_count s) e) tt
    by false e =
        let le = ltb-false n (broker_count s) e in
        let c = n - broker_count s in
        let good = good_client s c scripted (omega (arith, le, lt)) in
        Role.OfClient c (new_client (declared_at s c)) (omega (arith, le)) good good.cluster
