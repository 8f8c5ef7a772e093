-- The plan of an event at the broker of a setup is the machine's.
use Rattle.std.proofs.Common.{◌≡◌, ℕ, List, refl, sym, ◌∙◌, ap}
use Rattle.std.specs.Prelude.{Option}
use Rattle.geo_base.specs.declared.event.Event.{Event}
use Rattle.geo_base.specs.declared.event.Event.TheVariants as event
use Rattle.geo_base.specs.declared.packet.Packet.{Packet}
use Rattle.geo_base.specs.Broker.{Site}
use Rattle.geo_base.specs.Forwarding.{receipt, reset, take_packet}
use Rattle.geo_base.specs.Markers.{snap}
use Rattle.geo_base.specs.Offering.{offer}
use Rattle.geo_base.specs.Planned.{broker_plan}
use Rattle.geo_base.specs.Reading.{read}
use Rattle.geo_base.specs.Seeking.{seek}
use Rattle.geo_base.specs.Serving.{serve}
use Rattle.geo_base.specs.Setup.{Setup, declared_at, sub_name}
use Rattle.geo_base.specs.World.{site}
use Rattle.broker.specs.Events.{IsNodeOf, IsOfNode, IsOfTopic, name_at, plan_at_node}
use Rattle.broker.specs.Node.{BrokerView}

-- the node's site is that of the event's topic and cluster
here : (s : Setup) (t x u y : ℕ) (v : BrokerView) → IsNodeOf s t x v → u ≡ v.topic → y ≡ v.site.own → v.site ≡ site s u y
here s t x u y v is topic cluster =
    is.site ∙ ap (λ (k : ℕ). site s k x) (sym (topic ∙ is.topic)) ∙ ap (λ (k : ℕ). site s u k) (sym (cluster ∙ ap (λ (h : Site). h.own) is.site))

named : (s : Setup) (t x u n : ℕ) (v : BrokerView) → IsNodeOf s t x v → u ≡ v.topic → name_at v.names n ≡ sub_name s u n
named s t x u n v is topic =
    ap (λ (ns : List (List ℕ)). name_at ns n) is.names ∙ ap (λ (k : ℕ). sub_name s k n) (sym (topic ∙ is.topic))

of_clients : (s : Setup) (t x y c : ℕ) (v : BrokerView) → IsNodeOf s t x v → (declared_at s c).topic ≡ t → y ≡ v.site.own → v.site ≡ site s (declared_at s c).topic y
of_clients s t x y c v is topic cluster = here s t x (declared_at s c).topic y v is (topic ∙ sym is.topic) cluster

pub node_plan : (s : Setup) (t x : ℕ) (v : BrokerView) (e : Event) (p : Option Packet) → IsNodeOf s t x v → IsOfNode v e → IsOfTopic s t e → plan_at_node v e p ≡ broker_plan s v.broker e p
node_plan s t x v (event.Serve y c) p is of topic = ap (λ (h : Site). serve h v.broker c p) (of_clients s t x y c v is topic of.cluster)
node_plan s t x v (event.Drop y c) p is of topic = refl
node_plan s t x v (event.Reset u y z) p is of topic = ap (λ (h : Site). reset h v.broker z) (here s t x u y v is of.here.topic of.here.cluster)
node_plan s t x v (event.Read u y z) p is of topic = ap (λ (h : Site). read h v.broker z) (here s t x u y v is of.here.topic of.here.cluster)
node_plan s t x v (event.Take u y z f) p is of topic = ap (λ (h : Site). take_packet h v.broker y f p) (here s t x u z v is of.here.topic of.here.cluster)
node_plan s t x v (event.Receipt u y z f) p is of topic = ap (λ (h : Site). receipt h v.broker z f p) (here s t x u y v is of.here.topic of.here.cluster)
node_plan s t x v (event.Snap u y) p is of topic = ap (λ (h : Site). snap h v.broker) (here s t x u y v is of.topic of.cluster)
node_plan s t x v (event.Offer u y n) p is of topic =
    ap (λ (h : Site). offer h v.broker (name_at v.names n)) (here s t x u y v is of.topic of.cluster)
    ∙ ap (λ (name : List ℕ). offer (site s u y) v.broker name) (named s t x u n v is of.topic)
node_plan s t x v (event.Seek u y n to) p is of topic =
    ap (λ (h : Site). seek h v.broker (name_at v.names n) to) (here s t x u y v is of.topic of.cluster)
    ∙ ap (λ (name : List ℕ). seek (site s u y) v.broker name to) (named s t x u n v is of.topic)
node_plan s t x v (event.Restart u y) p is of topic = refl
node_plan s t x v (event.Go c) p is of topic = absurd of
node_plan s t x v (event.Get c) p is of topic = absurd of
node_plan s t x v (event.Reconnect c) p is of topic = absurd of
