-- An event of a broker leads to the machine's world after it.
use Rattle.std.proofs.Common.{◌≡◌, ℕ, true, false, List, [], ◌∷◌, sym, ◌∙◌, ap, subst}
use Rattle.std.specs.Prelude.{Some, None, Result, Ok, Err, OnErr, OnOk, slice_index_or}
use Rattle.geo_base.specs.declared.event.Event.{Event}
use Rattle.geo_base.specs.declared.packet.Out.{Out}
use Rattle.geo_base.specs.Broker.{Broker, Site, no_broker}
use Rattle.geo_base.specs.Happening.{happens}
use Rattle.geo_base.specs.Plan.{Plan, done}
use Rattle.geo_base.specs.Planned.{broker_plan}
use Rattle.geo_base.specs.Setup.{Setup}
use Rattle.geo_base.specs.World.{World}
use Rattle.broker_state.specs.Plan.{PlanView}
use Rattle.geo_base.specs.declared.packet.WireOut.{WireOut}
use Rattle.broker_plans.specs.Prepared.{ArePackets, IsPrepared}
use Rattle.script_text.specs.Scenario.{IsEvent}
use Rattle.broker.proofs.Planned.{node_plan}
use Rattle.broker.proofs.Ready.{done_is, idle_is}
use Rattle.broker.specs.Events.{plan_at_node}
use Rattle.links.specs.Each.{Both, more, none}
use Rattle.links.specs.Queues.{packet_on}
use Rattle.links.specs.Standing.{OutsStand}
use Rattle.kept_laws.proofs.Keeping.{broker_done, broker_idle, counts, input}
use Rattle.kept_laws.specs.Events.{IsBrokers, cluster_of, node_of, plan_in, sender_of, taken_in, takes_of, topic_of}
use Rattle.kept_laws.specs.Kept.{Kept, broker_acted, idled}
use Rattle.frame_laws.specs.BytePackets.{StandsForPacket}
use Rattle.kept_laws.specs.Standing.{Stands, limit_of}
use Rattle.kept_laws.proofs.Reaching.{ground, told_frames}
use Rattle.kept_laws.specs.Reached.{Reached}
use Rattle.world.specs.declared.fault.RunFault.{RunFault}
use Rattle.world.specs.declared.fault.RunFault.TheVariants as fault
use Rattle.world.specs.Steps.{Leads, PreparesAt, done_at}
use Rattle.world.specs.World.{IsAt, SameWorld, WorldView, kept_of, node_at}
use Rattle.world.proofs.Places.{at_same, broker_is, in_range_is, node_below, node_is, of_node, of_topic, stands_at}

abbrev pub Answer : Type 0
Answer = Result (Unit {0}) RunFault

abbrev pub failed : RunFault → Answer
failed f = Err f

on_both : {X Y Z : Type 0} (r : Answer) → (X → Y → Z) → OnOk r X → OnOk r Y → OnOk r Z
on_both (Ok u) f x y = f x y
on_both (Err e) f x y = tt

-- ---- want of memory

abbrev IsWant : Answer → Type 0
IsWant (Err fault.Memory) = Unit {0}
IsWant r = ⊥

pub wants : (s : Setup) (old new : WorldView) (next : World) → Leads s old new next (Err fault.Memory)
wants s old new next = record { done = tt; large = λ n is. absurd (subst IsWant is tt) }

-- ---- what was prepared

outs_stand : (names : List (List ℕ)) (vs : List Out) (os : List WireOut) → ArePackets names vs os → OutsStand names os vs
outs_stand names [] [] h = none
outs_stand names (v ∷ vs) (o ∷ os) h = more (record { to = h.0.to; session = h.0.session; frame = h.0.frame }) (outs_stand names vs os h.1)
outs_stand names [] (o ∷ os) h = absurd h
outs_stand names (v ∷ vs) [] h = absurd h

-- the machine's plan at the event's broker, with what its packet stands for
pub plan_is : (s : Setup) (b : WorldView) (w : World) (e : Event) → IsAt s b → IsBrokers e → IsEvent s e → Stands s (kept_of b) w
    → plan_at_node (node_at b.brokers (node_of s e)) e (taken_in s w e) ≡ plan_in s w e
plan_is s b w e h brokers here stands =
    let v = node_at b.brokers (node_of s e) in let v_in = taken_in s w e in
    node_plan s (topic_of s e) (cluster_of e) v e v_in (node_is s b e h brokers here) (of_node s b e h brokers here) (of_topic s e)
    ∙ ap (λ (c : Broker). broker_plan s c e v_in) (stands_at s b w (node_of s e) stands (node_below s b e h brokers here))

pub takes_stands : (s : Setup) (b : WorldView) (w : World) (e : Event) → IsAt s b → IsBrokers e → IsEvent s e → Reached s w → Stands s (kept_of b) w
    → Both (StandsForPacket (node_at b.brokers (node_of s e)).site.clusters) (packet_on b.links (takes_of e)) (taken_in s w e)
takes_stands s b w e h brokers here reached stands =
    subst (λ (g : Site). Both (StandsForPacket g.clusters) (packet_on b.links (takes_of e)) (taken_in s w e)) (sym (node_is s b e h brokers here).site)
    (input s (kept_of b) w (takes_of e) (told_frames s w h.setup reached) stands)

pub prepared_plan : (s : Setup) (b : WorldView) (w : World) (e : Event) (p : PlanView) → IsAt s b → IsBrokers e → IsEvent s e → Reached s w → Stands s (kept_of b) w
    → PreparesAt b (node_of s e) (packet_on b.links (takes_of e)) e p
    → IsPrepared (node_at b.brokers (node_of s e)).site (node_at b.brokers (node_of s e)).broker (plan_in s w e) p
prepared_plan s b w e p h brokers here reached stands prepared =
    let v = node_at b.brokers (node_of s e) in
    subst (λ (q : Plan). IsPrepared v.site v.broker q p) (plan_is s b w e h brokers here stands)
    (prepared (taken_in s w e) (takes_stands s b w e h brokers here reached stands))

-- also where brokers have other room
pub prepared_same : (s : Setup) (old mid : WorldView) (e : Event) (plan : Plan) (p : PlanView) → IsAt s old → SameWorld old mid → IsBrokers e → IsEvent s e
    → IsPrepared (node_at old.brokers (node_of s e)).site (node_at old.brokers (node_of s e)).broker plan p
    → IsPrepared (node_at mid.brokers (node_of s e)).site (node_at mid.brokers (node_of s e)).broker plan p
prepared_same s old mid e plan p h same brokers here prepared =
    let k = at_same s old mid h same in let n : ℕ = node_of s e in
    let site : (node_at old.brokers n).site ≡ (node_at mid.brokers n).site = (node_is s old e h brokers here).site ∙ sym (node_is s mid e k brokers here).site in
    let broker : (node_at old.brokers n).broker ≡ (node_at mid.brokers n).broker =
    sym (broker_is old.brokers n (node_below s old e h brokers here)) ∙ ap (λ (a : Kept). slice_index_or a.brokers n no_broker) (sym same.kept)
    ∙ broker_is mid.brokers n (node_below s mid e k brokers here) in
    subst (λ (b : Broker). IsPrepared (node_at mid.brokers n).site b plan p) broker (subst (λ (g : Site). IsPrepared g (node_at old.brokers n).broker plan p) site prepared)

-- the state that it leads to is the machine's
becomes : (s : Setup) (b : WorldView) (e : Event) (plan : Plan) (p : PlanView) → IsAt s b → IsBrokers e → IsEvent s e
    → IsPrepared (node_at b.brokers (node_of s e)).site (node_at b.brokers (node_of s e)).broker plan p
    → done_at (node_at b.brokers (node_of s e)) p ≡ done s.per_ledger (slice_index_or (kept_of b).brokers (node_of s e) no_broker) plan
becomes s b e plan p h brokers here prepared =
    let n : ℕ = node_of s e in let v = node_at b.brokers n in
    done_is v.site v.broker plan p prepared ∙ ap (λ (g : Site). done g.per_ledger v.broker plan) (node_is s b e h brokers here).site
    ∙ ap (λ (c : Broker). done s.per_ledger c plan) (sym (broker_is b.brokers n (node_below s b e h brokers here)))

-- ---- the event

pub stands_same : (s : Setup) (old mid : WorldView) (w : World) → SameWorld old mid → Stands s (kept_of old) w → Stands s (kept_of mid) w
stands_same s old mid w same stands = subst (λ (k : Kept). Stands s k w) (sym same.kept) stands

-- of what is prepared at a broker as it stands
pub foreseen_stands : (s : Setup) (b : WorldView) (w : World) (e : Event) (p : PlanView) → IsAt s b → IsBrokers e → IsEvent s e → Reached s w → Stands s (kept_of b) w
    → IsPrepared (node_at b.brokers (node_of s e)).site (node_at b.brokers (node_of s e)).broker (plan_in s w e) p → p.idle ≡ false
    → Stands s (broker_acted (kept_of b) (node_of s e) (sender_of s e) (takes_of e) (done_at (node_at b.brokers (node_of s e)) p) p.sent) (happens s w e)
foreseen_stands s b w e p h brokers here reached stands prepared busy =
    let n : ℕ = node_of s e in let plan = plan_in s w e in let v = node_at b.brokers n in
    let is : p.idle ≡ plan.idle = idle_is v.site v.broker plan p prepared in
    let sent : OutsStand s.clusters p.sent plan.sent =
    outs_stand s.clusters plan.sent p.sent (subst (λ (g : Site). ArePackets g.clusters plan.sent p.sent) (node_is s b e h brokers here).site prepared.sent) in
    subst (λ (c : Broker). Stands s (broker_acted (kept_of b) n (sender_of s e) (takes_of e) c p.sent) (happens s w e))
    (sym (becomes s b e plan p h brokers here prepared))
    (broker_done s (kept_of b) w e p.sent brokers (in_range_is s e here) (ground s h.setup w reached) stands (sym is ∙ busy) sent)

pub idle_stands : (s : Setup) (old mid : WorldView) (w : World) (e : Event) (p : PlanView) → IsAt s old → SameWorld old mid → IsBrokers e → IsEvent s e
    → Reached s w → Stands s (kept_of old) w → PreparesAt old (node_of s e) (packet_on old.links (takes_of e)) e p → p.idle ≡ true
    → Stands s (idled (kept_of mid)) (happens s w e)
idle_stands s old mid w e p h same brokers here reached stands prepares idle =
    let v = node_at old.brokers (node_of s e) in let plan = plan_in s w e in
    let is : p.idle ≡ plan.idle = idle_is v.site v.broker plan p (prepared_plan s old w e p h brokers here reached stands prepares) in
    broker_idle s (kept_of mid) w e brokers (in_range_is s e here) (stands_same s old mid w same stands) (sym is ∙ idle)

-- a kept world that stands for the machine's next one, where it is what a step comes to
pub leads_by : (s : Setup) (old new : WorldView) (k : Kept) (next : World) (r : Answer) → Stands s k next → OnOk r (kept_of new ≡ k)
    → OnOk r (limit_of k.events k.idle k.frame_bytes ≡ None) → ((n : ℕ) → r ≡ Err (fault.TooLarge n) → limit_of k.events k.idle k.frame_bytes ≡ Some n)
    → Leads s old new next r
leads_by s old new k next r stands is within large = record {
  done = on_both r (λ same low. (subst (λ (a : Kept). Stands s a next) (sym same) stands, counts s k next stands ∙ low)) is within;
  large = λ n past. counts s k next stands ∙ large n past;
}

pub on_ok : {X Y : Type 0} (r : Answer) → (X → Y) → OnOk r X → OnOk r Y
on_ok (Ok u) f x = f x
on_ok (Err e) f x = tt

-- ---- a world that has not changed

pub same_err : (old mid new : WorldView) (r : Answer) → SameWorld old mid → OnErr r (new ≡ mid) → OnErr r (SameWorld old new)
same_err old mid new (Ok u) same err = tt
same_err old mid new (Err e) same err = subst (SameWorld old) (sym err) same

pub still_same : (old mid new : WorldView) → SameWorld old mid → new ≡ mid → SameWorld old new
still_same old mid new same is = subst (SameWorld old) (sym is) same
