-- A world of which one broker has another state, or other room.
use Rattle.std.proofs.Common.{◌≡◌, ℕ, ◌<◌, List, length, sym, ◌∙◌, ap, subst}
use Rattle.std.proofs.lemmas.List.{get_or-set_same, length-set, map-set}
use Rattle.std.proofs.Math.Seq.{map-set_same}
use Rattle.std.specs.Prelude.{Option, Some, Result, Ok, Err, OnOk, slice_set}
use Rattle.geo_base.specs.declared.event.Event.{Event}
use Rattle.geo_base.specs.declared.memory.Memory.{Memory}
use Rattle.geo_base.specs.declared.packet.Packet.{Packet}
use Rattle.geo_base.specs.Broker.{Broker}
use Rattle.geo_base.specs.Setup.{Setup}
use Rattle.geo_base.specs.World.{node}
use Rattle.broker_state.specs.Plan.{PlanView}
use Rattle.broker_plans.specs.Prepared.{IsPrepared}
use Rattle.broker.specs.Events.{IsNodeOf, plan_at_node}
use Rattle.broker.specs.Input.{StandsForInput}
use Rattle.broker.specs.Node.{IsReady, BrokerView, SameNode}
use Rattle.frame_laws.specs.BytePackets.{StandsForPacket}
use Rattle.wire_ends.specs.declared.packet.WirePacket.{WirePacket}
use Rattle.links.specs.Each.{Both, both, neither}
use Rattle.world_laws.proofs.Induction.Frames.{at_set}
use Rattle.world.specs.Steps.{IsSetNode, PreparesAt}
use Rattle.world.specs.World.{AreNodes, SameWorld, WorldView, brokers_of, kept_of, no_node, node_at}

node_same : (s : Setup) (t x : ℕ) (v u : BrokerView) → SameNode v u → IsNodeOf s t x v → IsNodeOf s t x u
node_same s t x v u same is = record { topic = same.topic ∙ is.topic; site = same.site ∙ is.site; names = same.names ∙ is.names }

pub are_set : (s : Setup) (vs : List BrokerView) (n : ℕ) (v : BrokerView) → SameNode (node_at vs n) v → AreNodes s vs → AreNodes s (slice_set vs n v)
are_set s vs n v same h = record {
  count = length-set vs n v ∙ h.count;
  each = λ t x p q. at_set (IsNodeOf s t x) vs n (node s t x) v no_node
      (λ is. node_same s t x (node_at vs n) v same (subst (λ (m : ℕ). IsNodeOf s t x (node_at vs m)) (sym is) (h.each t x p q))) (h.each t x p q);
}

-- another state
pub set_node : (vs us : List BrokerView) (n : ℕ) (v : BrokerView) (b : Broker) → SameNode (node_at vs n) v → v.broker ≡ b → us ≡ slice_set vs n v → IsSetNode vs us n b
set_node vs us n v b same broker is = rw is (record {
  brokers = map-set (λ (u : BrokerView). u.broker) vs n v ∙ ap (λ (c : Broker). slice_set (brokers_of vs) n c) broker;
  same = λ s h. are_set s vs n v same h;
})

-- other room
pub same_world : (old new : WorldView) (n : ℕ) (v : BrokerView) → SameNode (node_at old.brokers n) v → v.broker ≡ (node_at old.brokers n).broker
    → new ≡ record old { brokers = slice_set old.brokers n v } → SameWorld old new
same_world old new n v same broker is = rw is (record {
  kept = ap (λ (bs : List Broker). record (kept_of old) { brokers = bs }) (map-set_same (λ (u : BrokerView). u.broker) old.brokers n v no_node broker);
  brokers = λ s h. are_set s old.brokers n v same h;
})

-- ---- what an event takes

flips : (A P : Option Packet → Type 0) (r : Result (Unit {0}) Memory) → ((v : Option Packet) → A v → OnOk r (P v)) → OnOk r ((v : Option Packet) → A v → P v)
flips A P (Ok u) f = λ v a. f v a
flips A P (Err m) f = tt

pub next_is : (names : List (List ℕ)) (o : Option WirePacket) (v : Option Packet) → Both (StandsForPacket names) o v → StandsForInput names o v
next_is names _ _ neither = tt
next_is names (Some w) (Some p) (both r) = r

pub prepares : (old : WorldView) (n : ℕ) (taken : Option WirePacket) (e : Event) (p : PlanView) (r : Result (Unit {0}) Memory) (i : Option WirePacket) → i ≡ taken
    → ((v : Option Packet) → StandsForInput (node_at old.brokers n).site.clusters i v
    → OnOk r (IsPrepared (node_at old.brokers n).site (node_at old.brokers n).broker (plan_at_node (node_at old.brokers n) e v) p))
    → OnOk r (PreparesAt old n taken e p)
prepares old n taken e p r i is f =
    let u = node_at old.brokers n in
    flips (λ (v : Option Packet). Both (StandsForPacket u.site.clusters) taken v) (λ v. IsPrepared u.site u.broker (plan_at_node u e v) p) r
    (λ v both. f v (subst (λ (j : Option WirePacket). StandsForInput u.site.clusters j v) (sym is) (next_is u.site.clusters taken v both)))

ready_at : (vs : List BrokerView) (n : ℕ) (v : BrokerView) (p : PlanView) → n < length vs → IsReady v p → IsReady (node_at (slice_set vs n v) n) p
ready_at vs n v p lt ready = rw (get_or-set_same vs n v no_node lt) ready

pub ready_there : (vs us : List BrokerView) (n : ℕ) (v : BrokerView) (p : PlanView) (r : Result (Unit {0}) Memory) → n < length vs → us ≡ slice_set vs n v → OnOk r (IsReady v p) → OnOk r (IsReady (node_at us n) p)
ready_there vs us n v p (Ok u) lt is ready = rw is (ready_at vs n v p lt ready)
ready_there vs us n v p (Err m) lt is ready = tt
