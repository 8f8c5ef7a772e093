-- An event at a broker.
use Rattle.std.proofs.Common.{◌≡◌, ℕ, Bool, true, false, List, [], max, refl, sym, ap, subst, ◌∙◌, ◌↔◌}
use Rattle.std.specs.Prelude.{Option, Some, None, IfNone, IfSome, IsTrue}
use Rattle.log_parts.specs.declared.table.EndRow.{EndRow}
use Rattle.log_parts.specs.Rows.{LooksRise, SamePeers, SameSends, SameTaken, SameTakes}
use Rattle.log_parts.specs.Sending.{AreAddressed, HasRoom}
use Rattle.broker.proofs.Planned.{node_plan}
use Rattle.broker.proofs.Ready.{done_is, idle_is}
use Rattle.broker.specs.Events.{CanHappen, IsNodeOf, IsOfNode, IsOfTopic, MarkerRises, NumbersRise, SeekRises}
use Rattle.broker.specs.Node.{BrokerView, SameNode}
use Rattle.broker_plans.specs.Prepared.{ArePackets, IsPrepared}
use Rattle.broker_state.specs.Plan.{PlanView, plan_in}
use Rattle.geo_base.specs.declared.event.Event.{Event}
use Rattle.geo_base.specs.declared.packet.Peer.{Peer}
use Rattle.geo_base.specs.declared.packet.WireOut.{WireOut}
use Rattle.geo_base.specs.Broker.{Broker, Site}
use Rattle.geo_base.specs.NodeState.{BrokerState, takes_from}
use Rattle.geo_base.specs.Nodes.{BrokerNode}
use Rattle.geo_base.specs.Plan.{Plan, done}
use Rattle.geo_base.specs.Planned.{broker_plan}
use Rattle.geo_base.specs.Setup.{Setup, sub_names}
use Rattle.geo_base.specs.World.{site}
use Rattle.frame_laws.specs.Logs.{StandsAs}
use Rattle.node_log.specs.declared.state.NodeState.TheVariants as kept
use Rattle.node_log.specs.declared.packing.Packed.{Packed as ReadyPackets}
use Rattle.node_log.specs.Acting.{Finished}
use Rattle.node_log.specs.Acts.{IsActed, IsHeld, LookedFor, NumbersFit, SameLog, shown_for}
use Rattle.node_log.specs.Logs.{LogHolds, IsStateOf, log_view, machine_state, node_in}
use Rattle.node_log.specs.Looking.{IsLooked, IsSeen}
use Rattle.node_log.specs.Owning.{IsAtBroker, IsOwn}
use Rattle.node_log.specs.Packing.{GoToPeers, MayJoin, MayNotJoin}
use Rattle.node_log.proofs.Doing.{acted_is, go_to_peers, holds_after, holds_same, same_log}
use Rattle.node_log.proofs.Outcomes.{held_is, refused}
use Rattle.node_log.proofs.OwnEvents.{at_own, no_number, of_topic, own_at}
use Rattle.script_text.specs.Script.{Script}
use Rattle.wire_ends.specs.declared.packet.WirePacket.{WirePacket}
use Rattle.wire_ends.specs.Parcels.{Packed}
use Rattle.world_laws.specs.ByteHistories.{ByteEvent, TakenStands}
use Rattle.wire_ends.specs.Parcels.{Packed as Parcel}

-- ---- what it knows of the setup

clusters_is : (s : Setup) (v : BrokerView) → IsNodeOf s v.topic v.site.own v → v.site.clusters ≡ s.clusters
clusters_is s v is = ap (λ (h : Site). h.clusters) is.site

per_is : (s : Setup) (v : BrokerView) → IsNodeOf s v.topic v.site.own v → v.site.per_ledger ≡ s.per_ledger
per_is s v is = ap (λ (h : Site). h.per_ledger) is.site

pub numbers_fit : (s : Setup) (v : BrokerView) (e : Event) → IsNodeOf s v.topic v.site.own v → NumbersRise v e → NumbersFit s (BrokerNode v.topic v.site.own) (BrokerState v.broker) e
numbers_fit s v e is h = record {
  session = h.session;
  seeks = subst (λ (ns : List (List ℕ)). SeekRises ns v.broker e) is.names h.seeks;
  marker = subst (λ (a : Site). MarkerRises a v.broker e) is.site h.marker;
}

-- ---- what a look shows, as the machine's event

pub seen_broker : (s : Setup) (v : BrokerView) (e : Event) (shown : Option WirePacket) (n : ℕ) (p : PlanView) → IsNodeOf s v.topic v.site.own v → IsOfNode v e → IsOfTopic s v.topic e
    → IsLooked v e shown n p → IsSeen s (BrokerState v.broker) e shown n p.idle p.sent (BrokerState (done s.per_ledger v.broker (plan_in v.broker p)))
seen_broker s v e shown n p is of topic looked = record {
  said = looked.said;
  stands = subst (λ (names : List (List ℕ)). TakenStands (StandsAs names) shown looked.said) (clusters_is s v is) looked.stands;
  idle = sym (idle_is v.site v.broker (broker_plan s v.broker e looked.said) p prepared);
  sent = subst (λ (names : List (List ℕ)). ArePackets names (broker_plan s v.broker e looked.said).sent p.sent) (clusters_is s v is) prepared.sent;
  state = ap BrokerState
      (subst (λ (per : ℕ). done per v.broker (plan_in v.broker p) ≡ done per v.broker (broker_plan s v.broker e looked.said)) (per_is s v is)
      (done_is v.site v.broker (broker_plan s v.broker e looked.said) p prepared));
  stamp = looked.stamp;
}
  where
    prepared : IsPrepared v.site v.broker (broker_plan s v.broker e looked.said) p
    prepared = subst (λ (q : Plan). IsPrepared v.site v.broker q p) (node_plan s v.topic v.site.own v e looked.said is of topic) looked.prepared

-- ---- the same broker in another state

pub same_node : (v w : BrokerView) → SameNode v w → node_in (kept.Broker w) ≡ node_in (kept.Broker v)
same_node v w same = ap (λ (t : ℕ). BrokerNode t w.site.own) same.topic ∙ ap (λ (h : Site). BrokerNode v.topic h.own) same.site

pub same_twice : (u v w : BrokerView) → SameNode u v → SameNode v w → SameNode u w
same_twice u v w a b = record {
  topic = b.topic ∙ a.topic;
  site = b.site ∙ a.site;
  names = b.names ∙ a.names;
  replicators = b.replicators ∙ a.replicators;
  sessions = b.sessions ∙ a.sessions;
}

pub state_of_same : (s : Setup) (v w : BrokerView) → IsStateOf s (kept.Broker v) → SameNode v w → IsStateOf s (kept.Broker w)
state_of_same s v w is same = (
  record {
    topic = refl;
    site = same.site ∙ is.0.site ∙ ap (λ (t : ℕ). site s t v.site.own) (sym same.topic) ∙ ap (λ (h : Site). site s w.topic h.own) (sym same.site);
    names = same.names ∙ is.0.names ∙ ap (sub_names s) (sym same.topic);
  },
  same.sessions ∙ is.1,
)

-- v is the broker before the event, w where it was prepared, y after it; q is the plan p without its packets
pub committed_is : (s : Setup) (v w y : BrokerView) (p q : PlanView) → IsNodeOf s v.topic v.site.own v → SameNode v w → w.broker ≡ v.broker → q ≡ record p { sent = [] }
    → y.broker ≡ done w.site.per_ledger w.broker (plan_in w.broker q) → machine_state (kept.Broker y) ≡ BrokerState (done s.per_ledger v.broker (plan_in v.broker p))
committed_is s v w y p q is same broker without committed =
    ap BrokerState (committed
    ∙ ap (λ (h : Site). done h.per_ledger w.broker (plan_in w.broker q)) same.site
    ∙ ap (λ (b : Broker). done v.site.per_ledger b (plan_in b q)) broker
    ∙ unsent
    ∙ ap (λ (per : ℕ). done per v.broker (plan_in v.broker p)) (per_is s v is))
  where
    unsent : done v.site.per_ledger v.broker (plan_in v.broker q) ≡ done v.site.per_ledger v.broker (plan_in v.broker p)
    unsent = rw without refl

-- ---- the ways out

own_of : (s : Setup) (v : BrokerView) (e : Event) {E : Type 0} (h : List (ByteEvent WirePacket)) (k : ℕ) (rs : List (EndRow E)) → LogHolds s (kept.Broker v) h k rs → IsAtBroker s v.topic v.site.own e → IsOwn s (BrokerNode v.topic v.site.own) e
own_of s v e h k rs holds at = own_at s v.topic v.site.own e holds.there at

unchanged : {E : Type 0} (sc : Script) (v : BrokerView) (h : List (ByteEvent WirePacket)) (k : ℕ) (sent_in taken_in : E → List WirePacket) (rs : List (EndRow E))
    → SameLog sent_in taken_in (log_view sc (kept.Broker v) h k rs) (log_view sc (kept.Broker v) h k rs)
unchanged sc v h k sent_in taken_in rs = record { scenario = refl; node = refl; state = refl; history = refl; clock = refl; sent = λ q. refl; taken = λ q. refl }

pub broker_elsewhere : {E : Type 0} (sc : Script) (v : BrokerView) (h : List (ByteEvent WirePacket)) (k : ℕ) (rs : List (EndRow E)) (e : Event) (sent_in taken_in : E → List WirePacket) (shown : E → Option WirePacket) (free looks : E → ℕ) (fits : Parcel → Type 0) (r : Bool)
    → (IsTrue r ↔ IsAtBroker sc.setup v.topic v.site.own e) → r ≡ false
    → IsHeld shown free looks fits e (log_view sc (kept.Broker v) h k rs) (log_view sc (kept.Broker v) h k rs) × SameLog sent_in taken_in (log_view sc (kept.Broker v) h k rs) (log_view sc (kept.Broker v) h k rs)
broker_elsewhere sc v h k rs e sent_in taken_in shown free looks fits r is fails =
    (IsHeld.Elsewhere (λ own. refused r is fails (at_own sc.setup v.topic v.site.own e own)), unchanged sc v h k sent_in taken_in rs)

pub broker_no_number : {E : Type 0} (sc : Script) (v : BrokerView) (h : List (ByteEvent WirePacket)) (k : ℕ) (rs : List (EndRow E)) (e : Event) (sent_in taken_in : E → List WirePacket) (shown : E → Option WirePacket) (free looks : E → ℕ) (fits : Parcel → Type 0) (a r : Bool)
    → LogHolds sc.setup (kept.Broker v) h k rs → (IsTrue a ↔ IsAtBroker sc.setup v.topic v.site.own e) → a ≡ true → (IsTrue r ↔ CanHappen v e) → r ≡ false
    → IsHeld shown free looks fits e (log_view sc (kept.Broker v) h k rs) (log_view sc (kept.Broker v) h k rs) × SameLog sent_in taken_in (log_view sc (kept.Broker v) h k rs) (log_view sc (kept.Broker v) h k rs)
broker_no_number sc v h k rs e sent_in taken_in shown free looks fits a r holds at here is fails =
    (IsHeld.NoNumber (no_number sc.setup v e holds.state.0 holds.state.1 (at.0 here) (refused r is fails)), unchanged sc v h k sent_in taken_in rs)

-- v is the broker before the event and w where it was prepared; rs are the ends before it, rs1 after the look, rs2 after packing
pub broker_err : {E : Type 0} (sc : Script) (v w : BrokerView) (h : List (ByteEvent WirePacket)) (k : ℕ) (sent_in taken_in : E → List WirePacket) (free : E → ℕ) (rs rs1 : List (EndRow E))
    → w.broker ≡ v.broker → SameNode v w → SameSends sent_in free rs rs1 → SameTaken taken_in rs rs1
    → SameLog sent_in taken_in (log_view sc (kept.Broker v) h k rs) (log_view sc (kept.Broker w) h k rs1)
broker_err sc v w h k sent_in taken_in free rs rs1 broker same sends taken =
    same_log sc (kept.Broker v) (kept.Broker w) h h k k sent_in taken_in rs rs1 (same_node v w same) (ap BrokerState broker) refl refl sends.sent taken

pub broker_err_late : {E : Type 0} (sc : Script) (v w : BrokerView) (h h' : List (ByteEvent WirePacket)) (k k' : ℕ) (sent_in taken_in : E → List WirePacket) (free : E → ℕ) (shown : E → Option WirePacket) (rs rs1 rs2 : List (EndRow E))
    → w.broker ≡ v.broker → SameNode v w → SameSends sent_in free rs rs1 → SameTaken taken_in rs rs1 → SameSends sent_in free rs1 rs2 → SameTakes taken_in shown rs1 rs2 → h' ≡ h → k' ≡ k
    → SameLog sent_in taken_in (log_view sc (kept.Broker v) h k rs) (log_view sc (kept.Broker w) h' k' rs2)
broker_err_late sc v w h h' k k' sent_in taken_in free shown rs rs1 rs2 broker same sends taken sends2 takes2 history clock =
    same_log sc (kept.Broker v) (kept.Broker w) h h' k k' sent_in taken_in rs rs2 (same_node v w same) (ap BrokerState broker) history clock
    (λ q. sends2.sent q ∙ sends.sent q) (λ q. takes2.taken q ∙ taken q)

pub broker_still : {E : Type 0} (s : Setup) (v w : BrokerView) (h : List (ByteEvent WirePacket)) (k : ℕ) (rs rs1 : List (EndRow E)) → LogHolds s (kept.Broker v) h k rs
    → w.broker ≡ v.broker → SameNode v w → SamePeers rs rs1 → LogHolds s (kept.Broker w) h k rs1
broker_still s v w h k rs rs1 holds broker same peers =
    holds_same s (kept.Broker v) (kept.Broker w) h h k k rs rs1 holds (same_node v w same) (ap BrokerState broker) refl refl peers (state_of_same s v w holds.state same)

pub broker_still_late : {E : Type 0} (s : Setup) (v w : BrokerView) (h h' : List (ByteEvent WirePacket)) (k k' : ℕ) (rs rs1 rs2 : List (EndRow E)) → LogHolds s (kept.Broker v) h k rs
    → w.broker ≡ v.broker → SameNode v w → SamePeers rs rs1 → SamePeers rs1 rs2 → h' ≡ h → k' ≡ k → LogHolds s (kept.Broker w) h' k' rs2
broker_still_late s v w h h' k k' rs rs1 rs2 holds broker same peers peers2 history clock =
    holds_same s (kept.Broker v) (kept.Broker w) h h' k k' rs rs2 holds (same_node v w same) (ap BrokerState broker) history clock (λ q. peers2 q ∙ peers q) (state_of_same s v w holds.state same)

-- what was looked, as the machine's event; idle and outs are those of the plan, whose packets are taken out in q
seen_of : {E : Type 0} (s : Setup) (v : BrokerView) (h : List (ByteEvent WirePacket)) (k : ℕ) (rs : List (EndRow E)) (e : Event) (o : Option WirePacket) (n : ℕ) (p q : PlanView) (idle : Bool) (outs : List WireOut)
    → LogHolds s (kept.Broker v) h k rs → IsAtBroker s v.topic v.site.own e → CanHappen v e → IsLooked v e o n p → q ≡ record p { sent = [] } → idle ≡ q.idle → outs ≡ p.sent
    → IsSeen s (BrokerState v.broker) e o n idle outs (BrokerState (done s.per_ledger v.broker (plan_in v.broker p)))
seen_of s v h k rs e o n p q idle outs holds at can looked without is_idle are =
    subst (λ (ps : List WireOut). IsSeen s (BrokerState v.broker) e o n idle ps (BrokerState (done s.per_ledger v.broker (plan_in v.broker p)))) (sym are)
    (subst (λ (b : Bool). IsSeen s (BrokerState v.broker) e o n b p.sent (BrokerState (done s.per_ledger v.broker (plan_in v.broker p)))) (sym (is_idle ∙ ap (λ (a : PlanView). a.idle) without))
    (seen_broker s v e o n p holds.state.0 can.node (of_topic s v.topic v.site.own e at) looked))

pub broker_goes : {E : Type 0} (s : Setup) (v : BrokerView) (h : List (ByteEvent WirePacket)) (k : ℕ) (rs rs1 : List (EndRow E)) (e : Event) (shown : E → Option WirePacket) (from : Option Peer) (n : ℕ) (p q : PlanView) (idle : Bool) (outs : List WireOut)
    → LogHolds s (kept.Broker v) h k rs → IsAtBroker s v.topic v.site.own e → CanHappen v e → ((b : Broker) → from ≡ takes_from (BrokerState b) e)
    → IsLooked v e (shown_for shown rs1 from) n p → SamePeers rs rs1 → q ≡ record p { sent = [] } → idle ≡ q.idle → outs ≡ p.sent → idle ≡ false → GoToPeers rs1 outs
broker_goes s v h k rs rs1 e shown from n p q idle outs holds at can takes looked peers without is_idle are enabled =
    go_to_peers s (kept.Broker v) h k rs rs1 e shown from n idle outs (BrokerState (done s.per_ledger v.broker (plan_in v.broker p))) holds peers (own_of s v e h k rs holds at) (takes v.broker)
    (seen_of s v h k rs e (shown_for shown rs1 from) n p q idle outs holds at can looked without is_idle are) enabled

pub broker_held : {E : Type 0} (sc : Script) (v w : BrokerView) (h h' : List (ByteEvent WirePacket)) (k k' : ℕ) (e : Event) (sent_in taken_in : E → List WirePacket) (shown : E → Option WirePacket) (free looks : E → ℕ) (fits : Parcel → Type 0)
    (from : Option Peer) (n : ℕ) (p q : PlanView) (idle : Bool) (outs : List WireOut) (rs rs1 rs2 : List (EndRow E)) (o : Option ReadyPackets)
    → LogHolds sc.setup (kept.Broker v) h k rs → IsAtBroker sc.setup v.topic v.site.own e → CanHappen v e → ((b : Broker) → from ≡ takes_from (BrokerState b) e)
    → IsLooked v e (shown_for shown rs1 from) n p → w.broker ≡ v.broker → SameNode v w → LookedFor looks rs rs1 from → LooksRise looks rs rs1 → SameSends sent_in free rs rs1 → SameTaken taken_in rs rs1
    → q ≡ record p { sent = [] } → idle ≡ q.idle → outs ≡ p.sent → o ≡ None → IfNone o (MayNotJoin free looks fits idle (max k n) outs rs1 rs2)
    → SameSends sent_in free rs1 rs2 → SameTakes taken_in shown rs1 rs2 → h' ≡ h → k' ≡ k
    → IsHeld shown free looks fits e (log_view sc (kept.Broker v) h k rs) (log_view sc (kept.Broker w) h' k' rs2) × SameLog sent_in taken_in (log_view sc (kept.Broker v) h k rs) (log_view sc (kept.Broker w) h' k' rs2)
broker_held sc v w h h' k k' e sent_in taken_in shown free looks fits from n p q idle outs rs rs1 rs2 o holds at can takes looked broker same looks1 rise sends taken without is_idle are none unready sends2 takes2 history clock = (
  held_is sc (kept.Broker v) (kept.Broker w) h h' k k' e shown taken_in free looks fits from n idle outs (BrokerState (done sc.setup.per_ledger v.broker (plan_in v.broker p))) rs rs1 rs2 (takes v.broker)
      (seen_of sc.setup v h k rs e (shown_for shown rs1 from) n p q idle outs holds at can looked without is_idle are)
      looks1 rise takes2 (subst (λ (u : Option ReadyPackets). IfNone u (MayNotJoin free looks fits idle (max k n) outs rs1 rs2)) none unready),
  broker_err_late sc v w h h' k k' sent_in taken_in free shown rs rs1 rs2 broker same sends taken sends2 takes2 history clock,
)

-- y is the broker after it, rs3 are the ends
broker_acted : {E : Type 0} (sc : Script) (v w y : BrokerView) (h h1 h2 : List (ByteEvent WirePacket)) (k k1 k2 : ℕ) (e : Event) (sent_in taken_in : E → List WirePacket) (shown : E → Option WirePacket) (free : E → ℕ) (fit : Packed → Type 0)
    (from : Option Peer) (n : ℕ) (p q : PlanView) (idle : Bool) (outs : List WireOut) (ready : ReadyPackets) (rs rs1 rs2 rs3 : List (EndRow E)) (o : Option ReadyPackets)
    → LogHolds sc.setup (kept.Broker v) h k rs → IsAtBroker sc.setup v.topic v.site.own e → CanHappen v e → ((b : Broker) → from ≡ takes_from (BrokerState b) e)
    → IsLooked v e (shown_for shown rs1 from) n p → w.broker ≡ v.broker → SameNode v w → SameSends sent_in free rs rs1 → SameTaken taken_in rs rs1
    → q ≡ record p { sent = [] } → idle ≡ q.idle → outs ≡ p.sent → o ≡ Some ready → IfSome o (λ u. MayJoin free fit idle (max k n) outs rs2 u)
    → SameSends sent_in free rs1 rs2 → SameTakes taken_in shown rs1 rs2 → h1 ≡ h → k1 ≡ k
    → y.broker ≡ done w.site.per_ledger w.broker (plan_in w.broker q) → SameNode w y → Finished shown sent_in taken_in e from ready h1 rs2 h2 rs3 → k2 ≡ ready.stamp
    → (acted : IsActed sent_in taken_in e (log_view sc (kept.Broker v) h k rs) (log_view sc (kept.Broker y) h2 k2 rs3)) × (acted.done.taken ≡ shown_for shown rs2 from)
broker_acted sc v w y h h1 h2 k k1 k2 e sent_in taken_in shown free fit from n p q idle outs ready rs rs1 rs2 rs3 o holds at can takes looked broker same sends taken without is_idle are some join sends2 takes2 history clock committed then finished stamp =
    acted_is sc (kept.Broker v) (kept.Broker y) h h2 k k2 e shown sent_in taken_in free fit from n idle outs (BrokerState (done sc.setup.per_ledger v.broker (plan_in v.broker p))) ready rs rs1 rs2 rs3
    (own_of sc.setup v e h k rs holds at) (numbers_fit sc.setup v e holds.state.0 can.numbers) (takes v.broker)
    (seen_of sc.setup v h k rs e (shown_for shown rs1 from) n p q idle outs holds at can looked without is_idle are)
    sends.sent taken sends2.sent takes2 (subst (λ (u : Option ReadyPackets). IfSome u (λ t. MayJoin free fit idle (max k n) outs rs2 t)) some join)
    (subst (λ (ds : List (ByteEvent WirePacket)). Finished shown sent_in taken_in e from ready ds rs2 h2 rs3) history finished) stamp
    (same_node v y (same_twice v w y same then)) (committed_is sc.setup v w y p q holds.state.0 same broker without committed)

pub broker_done : {E : Type 0} (sc : Script) (v w y : BrokerView) (h h1 h2 : List (ByteEvent WirePacket)) (k k1 k2 : ℕ) (e : Event) (sent_in taken_in : E → List WirePacket) (shown : E → Option WirePacket) (free : E → ℕ) (fit : Packed → Type 0)
    (from : Option Peer) (n : ℕ) (p q : PlanView) (idle : Bool) (outs : List WireOut) (ready : ReadyPackets) (rs rs1 rs2 rs3 : List (EndRow E)) (o : Option ReadyPackets)
    → LogHolds sc.setup (kept.Broker v) h k rs → IsAtBroker sc.setup v.topic v.site.own e → CanHappen v e → ((b : Broker) → from ≡ takes_from (BrokerState b) e)
    → IsLooked v e (shown_for shown rs1 from) n p → w.broker ≡ v.broker → SameNode v w → SameSends sent_in free rs rs1 → SameTaken taken_in rs rs1
    → q ≡ record p { sent = [] } → idle ≡ q.idle → outs ≡ p.sent → o ≡ Some ready → IfSome o (λ u. MayJoin free fit idle (max k n) outs rs2 u)
    → SameSends sent_in free rs1 rs2 → SameTakes taken_in shown rs1 rs2 → h1 ≡ h → k1 ≡ k
    → y.broker ≡ done w.site.per_ledger w.broker (plan_in w.broker q) → SameNode w y → Finished shown sent_in taken_in e from ready h1 rs2 h2 rs3 → k2 ≡ ready.stamp
    → IsActed sent_in taken_in e (log_view sc (kept.Broker v) h k rs) (log_view sc (kept.Broker y) h2 k2 rs3)
broker_done sc v w y h h1 h2 k k1 k2 e sent_in taken_in shown free fit from n p q idle outs ready rs rs1 rs2 rs3 o holds at can takes looked broker same sends taken without is_idle are some join sends2 takes2 history clock committed then finished stamp =
    (broker_acted sc v w y h h1 h2 k k1 k2 e sent_in taken_in shown free fit from n p q idle outs ready rs rs1 rs2 rs3 o holds at can takes looked broker same sends taken without is_idle are some join sends2 takes2 history clock committed then finished stamp).0

pub broker_grown : {E : Type 0} (sc : Script) (v w y : BrokerView) (h h1 h2 : List (ByteEvent WirePacket)) (k k1 k2 : ℕ) (e : Event) (sent_in taken_in : E → List WirePacket) (shown : E → Option WirePacket) (free : E → ℕ) (fit : Packed → Type 0)
    (from : Option Peer) (n : ℕ) (p q : PlanView) (idle : Bool) (outs : List WireOut) (ready : ReadyPackets) (rs rs1 rs2 rs3 : List (EndRow E)) (o : Option ReadyPackets)
    → LogHolds sc.setup (kept.Broker v) h k rs → IsAtBroker sc.setup v.topic v.site.own e → CanHappen v e → ((b : Broker) → from ≡ takes_from (BrokerState b) e)
    → IsLooked v e (shown_for shown rs1 from) n p → w.broker ≡ v.broker → SameNode v w → SameSends sent_in free rs rs1 → SameTaken taken_in rs rs1
    → q ≡ record p { sent = [] } → idle ≡ q.idle → outs ≡ p.sent → o ≡ Some ready → IfSome o (λ u. MayJoin free fit idle (max k n) outs rs2 u)
    → SameSends sent_in free rs1 rs2 → SameTakes taken_in shown rs1 rs2 → h1 ≡ h → k1 ≡ k
    → y.broker ≡ done w.site.per_ledger w.broker (plan_in w.broker q) → SameNode w y → Finished shown sent_in taken_in e from ready h1 rs2 h2 rs3 → k2 ≡ ready.stamp
    → SamePeers rs rs1 → SamePeers rs1 rs2 → SamePeers rs2 rs3 → LogHolds sc.setup (kept.Broker y) h2 k2 rs3
broker_grown sc v w y h h1 h2 k k1 k2 e sent_in taken_in shown free fit from n p q idle outs ready rs rs1 rs2 rs3 o holds at can takes looked broker same sends taken without is_idle are some join sends2 takes2 history clock committed then finished stamp peers1 peers2 peers3 =
    let acted = broker_acted sc v w y h h1 h2 k k1 k2 e sent_in taken_in shown free fit from n p q idle outs ready rs rs1 rs2 rs3 o holds at can takes looked broker same sends taken without is_idle are some join sends2 takes2 history clock committed then finished stamp in
    holds_after sc (kept.Broker v) (kept.Broker y) h h2 k k2 e shown sent_in taken_in from rs rs2 rs3 holds acted.0 (takes v.broker) acted.1
    (λ x. peers2 x ∙ peers1 x) (λ x. peers3 x ∙ (peers2 x ∙ peers1 x)) (state_of_same sc.setup v y holds.state (same_twice v w y same then))

-- what finishing asks for
pub ready_room : {E : Type 0} (free : E → ℕ) (fit : Packed → Type 0) (idle : Bool) (last : ℕ) (outs : List WireOut) (rs : List (EndRow E)) (o : Option ReadyPackets) (p : ReadyPackets)
    → o ≡ Some p → IfSome o (λ u. MayJoin free fit idle last outs rs u) → HasRoom free rs p.parcels.items
ready_room free fit idle last outs rs o p is join = (subst (λ (t : Option ReadyPackets). IfSome t (λ u. MayJoin free fit idle last outs rs u)) is join).packed.room

pub ready_addressed : {E : Type 0} (free : E → ℕ) (fit : Packed → Type 0) (idle : Bool) (last : ℕ) (outs : List WireOut) (rs : List (EndRow E)) (o : Option ReadyPackets) (p : ReadyPackets)
    → o ≡ Some p → IfSome o (λ u. MayJoin free fit idle last outs rs u) → AreAddressed fit rs p.parcels.items
ready_addressed free fit idle last outs rs o p is join = (subst (λ (t : Option ReadyPackets). IfSome t (λ u. MayJoin free fit idle last outs rs u)) is join).packed.addressed

pub ready_log : {P : Type 0} (o : Option ReadyPackets) (p : ReadyPackets) → o ≡ Some p → IfSome o (λ u. P) → P
ready_log {P} o p is h = subst (λ (t : Option ReadyPackets). IfSome t (λ u. P)) is h
