-- An event that takes a packet and finds none is not enabled.
use Rattle.std.proofs.Common.{◌≡◌, ℕ, Bool, true, false, refl, sym, ◌∙◌, subst}
use Rattle.std.proofs.lemmas.Bool.{false≢true}
use Rattle.std.specs.Prelude.{Option, Some, None, Ok, is_none, is_some}
use Rattle.geo_base.specs.declared.event.Event.{Event}
use Rattle.geo_base.specs.declared.event.Event.TheVariants as event
use Rattle.geo_base.specs.declared.packet.Packet.{Packet}
use Rattle.geo_base.specs.Forwarding.{receipt, take_packet}
use Rattle.geo_base.specs.Happening.{happens}
use Rattle.geo_base.specs.Plan.{Plan, idle_plan}
use Rattle.geo_base.specs.Serving.{serve}
use Rattle.geo_base.specs.Setup.{Setup}
use Rattle.geo_base.specs.World.{World, node}
use Rattle.broker.proofs.Ready.{idle_prepared}
use Rattle.broker.specs.Events.{plan_at_node}
use Rattle.broker.specs.Node.{BrokerView}
use Rattle.broker_plans.specs.Prepared.{IsPrepared}
use Rattle.broker_state.specs.Plan.{idle_view}
use Rattle.frame_laws.specs.BytePackets.{StandsForPacket}
use Rattle.links.specs.declared.name.LinkName.{LinkName}
use Rattle.links.specs.Each.{Both, neither}
use Rattle.links.specs.declared.port.Port.{Port}
use Rattle.links.specs.Queues.{packet_in}
use Rattle.script_text.specs.Scenario.{IsEvent}
use Rattle.wire_ends.specs.declared.packet.WirePacket.{WirePacket}
use Rattle.kept_laws.specs.Events.{IsBrokers, takes_of}
use Rattle.kept_laws.specs.Reached.{Reached}
use Rattle.kept_laws.specs.Standing.{Stands}
use Rattle.world.specs.declared.broker_ref.BrokerRef.{BrokerRef}
use Rattle.world.specs.Steps.{Acts, PreparesAt, Waits, broker_ref_at}
use Rattle.world.specs.World.{IsAt, SameWorld, WorldView, kept_of, node_at}
use Rattle.world.proofs.Acting.{acts_idle, plans}

waits_idle : (v : BrokerView) (e : Event) → is_some (takes_of e) ≡ true → plan_at_node v e None ≡ idle_plan
unfolding serve take_packet receipt
waits_idle v (event.Serve x c) taking = refl
waits_idle v (event.Take t x y f) taking = refl
waits_idle v (event.Receipt t x y f) taking = refl
waits_idle v (event.Drop x c) taking = absurd (false≢true taking)
waits_idle v (event.Reset t x y) taking = absurd (false≢true taking)
waits_idle v (event.Read t x y) taking = absurd (false≢true taking)
waits_idle v (event.Snap t x) taking = absurd (false≢true taking)
waits_idle v (event.Offer t x n) taking = absurd (false≢true taking)
waits_idle v (event.Seek t x n to) taking = absurd (false≢true taking)
waits_idle v (event.Restart t x) taking = absurd (false≢true taking)
waits_idle v (event.Go c) taking = absurd (false≢true taking)
waits_idle v (event.Get c) taking = absurd (false≢true taking)
waits_idle v (event.Reconnect c) taking = absurd (false≢true taking)

some_link : (link : Option LinkName) (none : Bool) → none ≡ is_none link → none ≡ false → is_some link ≡ true
some_link None none known is = absurd (false≢true (sym is ∙ known))
some_link (Some l) none known is = refl

pub waits_there : (b : WorldView) (takes : Port) (none : Bool) (r : Option WirePacket) → none ≡ is_none takes.link → none ≡ false → r ≡ packet_in b.links takes → r ≡ None → Waits b takes
waits_there b takes none r known is there empty = record { taking = some_link takes.link none known is; none = sym there ∙ empty }

-- whatever stands for no packet, nothing is prepared
none_prepares : (v : BrokerView) (e : Event) (o : Option WirePacket) (i : Option Packet) → o ≡ None → plan_at_node v e None ≡ idle_plan → Both (StandsForPacket v.site.clusters) o i
    → IsPrepared v.site v.broker (plan_at_node v e i) idle_view
none_prepares v e None None none is neither = subst (λ (plan : Plan). IsPrepared v.site v.broker plan idle_view) (sym is) (idle_prepared v.site v.broker idle_view refl)
none_prepares v e None (Some q) none is stand = elim stand [ ]
none_prepares v e (Some w) i none is stand = absurd cc

pub waits_prepared : (b : WorldView) (n : ℕ) (e : Event) (takes : Port) → takes.link ≡ takes_of e → Waits b takes → PreparesAt b n (packet_in b.links takes) e idle_view
waits_prepared b n e takes is waits =
    λ v stand. none_prepares (node_at b.brokers n) e (packet_in b.links takes) v waits.none (waits_idle (node_at b.brokers n) e (subst (λ (o : Option LinkName). is_some o ≡ true) is waits.taking)) stand

pub same_itself : (b : WorldView) → SameWorld b b
same_itself b = record { kept = refl; brokers = λ s h. h }

pub acts_waiting : (s : Setup) (b : WorldView) (w : World) (e : Event) (broker_ref : BrokerRef) → IsAt s b → IsBrokers e → IsEvent s e → broker_ref ≡ broker_ref_at s b.links e → Waits b broker_ref.takes
    → Reached s w → Stands s (kept_of b) w → Acts s b b (happens s w e) (Ok false)
acts_waiting s b w e broker_ref at brokers scripted there waits reached stands =
    let n : ℕ = node s broker_ref.topic broker_ref.cluster in
    let takes : broker_ref.takes.link ≡ takes_of e = subst (λ (a : BrokerRef). a.takes.link ≡ takes_of e) (sym there) refl in
    acts_idle s b b w e broker_ref n idle_view (plans s b b e broker_ref n idle_view at (same_itself b) brokers scripted there refl (waits_prepared b n e broker_ref.takes takes waits)) refl reached stands
