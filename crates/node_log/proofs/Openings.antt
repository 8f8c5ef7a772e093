-- What holds of a log before any event, and of one over other ends.
use Rattle.std.proofs.Common.{◌≡◌, ℕ, ◌+◌, ◌-◌, ◌<◌, Bool, true, false, List, [], length, refl, sym, ap, subst, ◌∙◌, arith, nat_lt}
use Rattle.std.specs.Prelude.{Option, None}
use Rattle.std.proofs.lemmas.Bool.{lt-ltb, ltb-true}
use Rattle.std.proofs.lemmas.List.{length-replicate}
use Rattle.log_parts.specs.declared.table.EndRow.{EndRow}
use Rattle.frame_laws.specs.Logs.{IsLogOf}
use Rattle.broker.specs.Events.{IsNodeOf}
use Rattle.broker.specs.Node.{BrokerView}
use Rattle.geo_base.specs.Broker.{Broker, Site, new_broker}
use Rattle.geo_base.specs.Client.{Client, new_client}
use Rattle.geo_base.specs.NodeState.{BrokerState, ClientState, NodeState, opening_state}
use Rattle.geo_base.specs.Nodes.{BrokerNode, ClientNode, broker_count, is_node, node_number}
use Rattle.geo_base.specs.Scripted.{IsScripted}
use Rattle.geo_base.specs.Setup.{Setup, declared_at}
use Rattle.geo_base.specs.World.{node}
use Rattle.log_parts.specs.Rows.{SamePeers, SameSends, SameTakes}
use Rattle.node_log.specs.declared.state.NodeState.{NodeState as Kept}
use Rattle.node_log.specs.declared.state.NodeState.TheVariants as kept
use Rattle.node_log.specs.Acts.{SameLog}
use Rattle.node_log.specs.Logs.{LogHolds, HasPeers, log_view}
use Rattle.script_text.specs.Script.{Script}
use Rattle.wire_ends.specs.declared.packet.WirePacket.{WirePacket}
use Rattle.world_laws.specs.ByteHistories.{ByteEvent}
use Rattle.world_laws.proofs.Replicating.Sizes.{node_lt}

not_below : (c n : ℕ) → nat_lt (n + c) n ≡ false
not_below c n = by (nat_lt (n + c) n) refl
  where
    by : (b : Bool) → nat_lt (n + c) n ≡ b → b ≡ false
    by true e = let lt = ltb-true (n + c) n e in absurd (omega (arith, lt))
    by false e = refl

broker_there : (s : Setup) (t x : ℕ) → t < length s.topics → x < length s.clusters → is_node s (BrokerNode t x) ≡ true
broker_there s t x lt lx = rw (lt-ltb t (length s.topics) lt, lt-ltb x (length s.clusters) lx) refl

client_there : (s : Setup) (c : ℕ) → c < length s.clients → is_node s (ClientNode c) ≡ true
client_there s c lt = lt-ltb c (length s.clients) lt

empty : (s : Setup) (n : ℕ) (st : NodeState) → st ≡ opening_state s n → IsLogOf s n [] st 0
empty s n st is = record { said = []; stands = tt; replay = tt; state = is; clock_is = refl }

broker_replays : (s : Setup) (t x : ℕ) → t < length s.topics → x < length s.clusters
    → IsLogOf s (node_number s (BrokerNode t x)) [] (BrokerState (new_broker (length s.clusters) (length s.clients))) 0
broker_replays s t x lt lx =
    let within : nat_lt (node s t x) (broker_count s) ≡ true = lt-ltb (node s t x) (broker_count s) (node_lt s t x (lt, lx)) in
    empty s (node s t x) _ (rw within refl)

client_replays : (s : Setup) (c : ℕ) → IsLogOf s (node_number s (ClientNode c)) [] (ClientState (new_client (declared_at s c))) 0
client_replays s c =
    let behind : nat_lt (broker_count s + c) (broker_count s) ≡ false = not_below c (broker_count s) in
    let same : broker_count s + c - broker_count s ≡ c = omega arith in
    empty s (broker_count s + c) _ (rw (behind, same) refl)

-- from the numbers of a node to those that it knows
moved : (s : Setup) (t x : ℕ) (v : BrokerView) (P : ℕ → ℕ → Type 0) → IsNodeOf s t x v → P t x → P v.topic v.site.own
moved s t x v P is h =
    let own : v.site.own ≡ x = ap (λ (a : Site). a.own) is.site in
    subst (λ (u : ℕ). P u v.site.own) (sym is.topic) (subst (λ (y : ℕ). P t y) (sym own) h)

sessions_of : (s : Setup) (b : Broker) → b ≡ new_broker (length s.clusters) (length s.clients) → length b.sessions ≡ length s.clients
sessions_of s b new = ap (λ (a : Broker). length a.sessions) new ∙ length-replicate (length s.clients) None

replays_from : (s : Setup) (n : ℕ) (h : List (ByteEvent WirePacket)) (st st' : NodeState) (clock : ℕ) → h ≡ [] → clock ≡ 0 → st ≡ st' → IsLogOf s n [] st' 0 → IsLogOf s n h st clock
replays_from s n h st st' clock none begins same is =
    subst (λ (k : ℕ). IsLogOf s n h st k) (sym begins) (subst (λ (ds : List (ByteEvent WirePacket)). IsLogOf s n ds st 0) (sym none) (subst (λ (u : NodeState). IsLogOf s n [] u 0) (sym same) is))

broker_holds : {E : Type 0} (s : Setup) (t x : ℕ) (v : BrokerView) (h : List (ByteEvent WirePacket)) (clock : ℕ) (rs : List (EndRow E)) → IsScripted s → t < length s.topics → x < length s.clusters
    → IsNodeOf s t x v → v.broker ≡ new_broker (length s.clusters) (length s.clients) → HasPeers s (BrokerNode t x) rs → h ≡ [] → clock ≡ 0 → LogHolds s (kept.Broker v) h clock rs
broker_holds s t x v h clock rs scripted lt lx is new peers none begins = record {
  scripted = scripted;
  there = moved s t x v (λ (u y : ℕ). is_node s (BrokerNode u y) ≡ true) is (broker_there s t x lt lx);
  state = (moved s t x v (λ (u y : ℕ). IsNodeOf s u y v) is is, sessions_of s v.broker new);
  replays = moved s t x v (λ (u y : ℕ). IsLogOf s (node_number s (BrokerNode u y)) h (BrokerState v.broker) clock) is
      (replays_from s (node_number s (BrokerNode t x)) h (BrokerState v.broker) (BrokerState (new_broker (length s.clusters) (length s.clients))) clock none begins (ap BrokerState new) (broker_replays s t x lt lx));
  peers = moved s t x v (λ (u y : ℕ). HasPeers s (BrokerNode u y) rs) is peers;
}

client_holds : {E : Type 0} (s : Setup) (c : ℕ) (k : Client) (h : List (ByteEvent WirePacket)) (clock : ℕ) (rs : List (EndRow E)) → IsScripted s → c < length s.clients → k ≡ new_client (declared_at s c)
    → HasPeers s (ClientNode c) rs → h ≡ [] → clock ≡ 0 → LogHolds s (kept.Client (record { number = c; client = k })) h clock rs
client_holds s c k h clock rs scripted lt new peers none begins = record {
  scripted = scripted;
  there = client_there s c lt;
  state = tt;
  replays = replays_from s (node_number s (ClientNode c)) h (ClientState k) (ClientState (new_client (declared_at s c))) clock none begins (ap ClientState new) (client_replays s c);
  peers = peers;
}

-- over other ends of the same peers
pub holds_still : {E : Type 0} (s : Setup) (st : Kept) (h : List (ByteEvent WirePacket)) (clock : ℕ) (rs rs' : List (EndRow E)) → LogHolds s st h clock rs → SamePeers rs rs' → LogHolds s st h clock rs'
holds_still s st h clock rs rs' is same = record { scripted = is.scripted; there = is.there; state = is.state; replays = is.replays; peers = λ q. same q ∙ is.peers q }

-- a look at the ends leaves all else
pub same_looked : {E : Type 0} (sent_in taken_in : E → List WirePacket) (shown : E → Option WirePacket) (free : E → ℕ) (sc : Script) (st : Kept) (h : List (ByteEvent WirePacket)) (clock : ℕ) (rs rs' : List (EndRow E))
    → SameSends sent_in free rs rs' → SameTakes taken_in shown rs rs' → SameLog sent_in taken_in (log_view sc st h clock rs) (log_view sc st h clock rs')
same_looked sent_in taken_in shown free sc st h clock rs rs' sends takes =
    record { scenario = refl; node = refl; state = refl; history = refl; clock = refl; sent = sends.sent; taken = takes.taken }

-- as it is known by a borrow of the configuration
pub broker_begins : {E : Type 0} (a b : Script) (t x : ℕ) (v : BrokerView) (h : List (ByteEvent WirePacket)) (clock : ℕ) (rs : List (EndRow E)) → b ≡ a → IsScripted b.setup → t < length a.setup.topics → x < length a.setup.clusters
    → IsNodeOf b.setup t x v → v.broker ≡ new_broker (length b.setup.clusters) (length b.setup.clients) → HasPeers a.setup (BrokerNode t x) rs → h ≡ [] → clock ≡ 0 → LogHolds a.setup (kept.Broker v) h clock rs
broker_begins a b t x v h clock rs same scripted lt lx is new peers none begins =
    broker_holds a.setup t x v h clock rs (subst (λ (k : Script). IsScripted k.setup) same scripted) lt lx (subst (λ (k : Script). IsNodeOf k.setup t x v) same is)
    (subst (λ (k : Script). v.broker ≡ new_broker (length k.setup.clusters) (length k.setup.clients)) same new) peers none begins

pub client_begins : {E : Type 0} (a b : Script) (c : ℕ) (k : Client) (h : List (ByteEvent WirePacket)) (clock : ℕ) (rs : List (EndRow E)) → b ≡ a → IsScripted b.setup → c < length a.setup.clients → k ≡ new_client (declared_at b.setup c)
    → HasPeers a.setup (ClientNode c) rs → h ≡ [] → clock ≡ 0 → LogHolds a.setup (kept.Client (record { number = c; client = k })) h clock rs
client_begins a b c k h clock rs same scripted lt new peers none begins =
    client_holds a.setup c k h clock rs (subst (λ (d : Script). IsScripted d.setup) same scripted) lt (subst (λ (d : Script). k ≡ new_client (declared_at d.setup c)) same new) peers none begins
