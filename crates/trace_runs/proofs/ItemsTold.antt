-- The lines of an event are those that a trace has for it.
use Rattle.std.proofs.Common.{◌≡◌, ℕ, ◌+◌, ◌^◌, ◌<◌, ◌==◌, Bool, true, false, List, [], ◌∷◌, ◌++◌, length, refl, sym, ap, subst, append_assoc, ◌∙◌, arith}
use Rattle.std.proofs.lemmas.Bool.{eq-eqb}
use Rattle.std.proofs.lemmas.List.{append-nil}
use Rattle.std.specs.Prelude.{Option, None, Result, Ok, Err, OnErr, if◌then◌else◌, take}
use Rattle.geo_base.specs.declared.event.Event.{Event}
use Rattle.geo_base.specs.declared.event.Event.TheVariants as event
use Rattle.geo_base.specs.declared.write.Write.{Write}
use Rattle.geo_base.specs.Broker.{Broker, Site}
use Rattle.geo_base.specs.Happening.{broker_does, broker_halts, halts_planned, happens}
use Rattle.geo_base.specs.Plan.{Plan}
use Rattle.geo_base.specs.Planned.{Planned, in_range, planned, planned_in}
use Rattle.geo_base.specs.Run.{is_idle}
use Rattle.geo_base.specs.Setup.{Setup}
use Rattle.geo_base.specs.TraceItems.{Acks, Act, Appends, Begins, Creates, Deletes, Item, Seeks, Writes}
use Rattle.geo_base.specs.TraceText.{item_line}
use Rattle.geo_base.specs.Traced.{acts_of, all_writes, cause_of, event_items, halt_items, planned_items, told_at}
use Rattle.geo_base.specs.World.{World, node, site, topic_at}
use Rattle.trace_runs.specs.Acts.{acts_before}
use Rattle.trace_runs.specs.Naming.{act_line}
use Rattle.broker.proofs.Ready.{idle_is}
use Rattle.broker.specs.Node.{BrokerView}
use Rattle.broker_state.specs.Fits.{PlanFits}
use Rattle.broker_state.specs.Plan.{PlanView, plan_in as view_plan}
use Rattle.trace_runs.specs.Writes.{ReadsWithin, lines_of, naming}
use Rattle.script_text.specs.Scenario.{IsEvent}
use Rattle.world.specs.declared.fault.RunFault.{RunFault}
use Rattle.world.specs.declared.fault.RunFault.TheVariants as fault
use Rattle.world.specs.Foreseen.{IsForeseen}
use Rattle.world.specs.declared.broker_ref.BrokerRef.{BrokerRef}
use Rattle.world.specs.Steps.{IsBrokerOf, Leads}
use Rattle.world.specs.World.{IsWithin, SameWorld, WorldView, kept_of, node_at}
use Rattle.world.proofs.Places.{in_range_is}
use Rattle.kept_laws.proofs.Keeping.{done_is, event_plan, planned_is}
use Rattle.kept_laws.specs.Events.{IsBrokers, cluster_of, node_of, plan_in, topic_of}
use Rattle.kept_laws.specs.Kept.{Kept, idled}
use Rattle.kept_laws.specs.Standing.{Stands}
use Rattle.trace_runs.specs.Tracing.{IsClients, item_lines, text_of}
use Rattle.trace_runs.proofs.Apart.{plan_apart}
use Rattle.geo_base.proofs.Lists.{length_of_map}
use Rattle.geo_base.proofs.Sums.{eq_apart, eq_itself, eq_next}
pub use Rattle.geo_base.proofs.Results.{on_ok_always as always, on_ok_to as on_ok}

-- ---- lines

-- the line of a write stands at its broker
write_line : (s : Setup) (t x : ℕ) (a : Act) → item_line s (Writes t x a) ++ 10 ∷ [] ≡ act_line (naming (site s t x)) a
unfolding item_line
write_line s t x (Appends p e by) = refl
write_line s t x (Creates n latest) = refl
write_line s t x (Deletes n) = refl
write_line s t x (Acks n is c) = refl
write_line s t x (Seeks n i) = refl

one_line : (s : Setup) (i : Item) (is : List Item) → item_lines s (i ∷ is) ≡ (item_line s i ++ 10 ∷ []) ++ item_lines s is
one_line s i is = sym (append_assoc (item_line s i) (10 ∷ []) (item_lines s is))

write_lines : (s : Setup) (t x : ℕ) (acts : List Act) → item_lines s (told_at t x acts) ≡ lines_of (site s t x) acts
write_lines s t x [] = refl
write_lines s t x (a ∷ acts) =
    one_line s (Writes t x a) (told_at t x acts)
    ∙ (ap (λ (l : List ℕ). l ++ item_lines s (told_at t x acts)) (write_line s t x a) ∙ ap (λ (l : List ℕ). act_line (naming (site s t x)) a ++ l) (write_lines s t x acts))

-- lines after lines
pub lines_both : (s : Setup) (is js : List Item) → item_lines s (is ++ js) ≡ item_lines s is ++ item_lines s js
lines_both s [] js = refl
lines_both s (i ∷ is) js =
    one_line s i (is ++ js)
    ∙ (ap (λ (l : List ℕ). (item_line s i ++ 10 ∷ []) ++ l) (lines_both s is js)
    ∙ (sym (append_assoc (item_line s i ++ 10 ∷ []) (item_lines s is) (item_lines s js)) ∙ ap (λ (l : List ℕ). l ++ item_lines s js) (sym (one_line s i is))))

pub both_told : (s : Setup) (is js : List Item) (old mid new : List ℕ) → mid ≡ old ++ item_lines s is → new ≡ mid ++ item_lines s js → new ≡ old ++ item_lines s (is ++ js)
both_told s is js old mid new one two =
    two ∙ (ap (λ (t : List ℕ). t ++ item_lines s js) one ∙ (append_assoc old (item_lines s is) (item_lines s js) ∙ ap (λ (t : List ℕ). old ++ t) (sym (lines_both s is js))))

-- no line
pub nothing_told : (s : Setup) (is : List Item) (text : List ℕ) → is ≡ [] → text ≡ text ++ item_lines s is
nothing_told s is text none = sym (append-nil text) ∙ ap (λ (js : List Item). text ++ item_lines s js) (sym none)

pub begin_told : (s : Setup) (n : ℕ) (is : List Item) (old new : List ℕ) → is ≡ Begins n ∷ [] → new ≡ old ++ (item_line s (Begins n) ++ 10 ∷ []) → new ≡ old ++ item_lines s is
begin_told s n is old new one told =
    told ∙ (ap (λ (t : List ℕ). old ++ t) (sym (append-nil (item_line s (Begins n) ++ 10 ∷ [])) ∙ sym (one_line s (Begins n) [])) ∙ ap (λ (js : List Item). old ++ item_lines s js) (sym one))

-- ---- an event of a broker

abbrev plan_items : Setup → World → ℕ → Event → List Item
plan_items s w k e = planned_items s w k e (planned s w e)

-- the lines of its writes are those of the machine's plan
writes_told : (s : Setup) (w : World) (e : Event) (v : BrokerView) (p : PlanView) (k : ℕ) → IsBrokers e → in_range s e ≡ true → IsForeseen s w e v p
    → lines_of v.site (acts_before v.site (cause_of v.broker e) v.broker (take k (view_plan v.broker p).writes)) ≡ item_lines s (plan_items s w k e)
writes_told s w e v p k brokers within f =
    let t = topic_of s e in let x = cluster_of e in let b = topic_at s w t x in let h = site s t x in let plan = plan_in s w e in
    let writes : (view_plan v.broker p).writes ≡ plan.writes = ap (λ (q : Plan). q.writes) f.prepared.steps in
    ap (λ (ws : List Write). lines_of v.site (acts_before v.site (cause_of v.broker e) v.broker (take k ws))) writes
    ∙ (ap (λ (g : Site). lines_of g (acts_before g (cause_of v.broker e) v.broker (take k plan.writes))) f.node.site
    ∙ (ap (λ (c : Broker). lines_of h (acts_before h (cause_of c e) c (take k plan.writes))) f.broker
    ∙ (ap (λ (acts : List Act). lines_of h acts) (sym (plan_apart s (cause_of b e) b e _ k))
    ∙ (sym (write_lines s t x (acts_of h (cause_of b e) b (take k plan.writes)))
    ∙ ap (λ (o : Option Planned). item_lines s (planned_items s w k e o)) (sym (planned_is s w e brokers within))))))

foretold : (s : Setup) (w : World) (e : Event) (v : BrokerView) (p : PlanView) (k events : ℕ) (old new : List ℕ) → IsBrokers e → in_range s e ≡ true → IsForeseen s w e v p
    → events ≡ w.events → new ≡ text_of s old events v e p k → new ≡ old ++ item_lines s (Begins (w.events + 1) ∷ plan_items s w k e)
foretold s w e v p k events old new brokers within f counts told =
    let begin : ℕ → List ℕ = λ n. item_line s (Begins (n + 1)) ++ 10 ∷ [] in
    told
    ∙ (ap (λ (n : ℕ). (old ++ begin n) ++ lines_of v.site (acts_before v.site (cause_of v.broker e) v.broker (take k (view_plan v.broker p).writes))) counts
    ∙ (ap (λ (l : List ℕ). (old ++ begin w.events) ++ l) (writes_told s w e v p k brokers within f)
    ∙ (append_assoc old (begin w.events) (item_lines s (plan_items s w k e)) ∙ ap (λ (l : List ℕ). old ++ l) (sym (one_line s (Begins (w.events + 1)) (plan_items s w k e))))))

idle_by : (s : Setup) (w : World) (p : Planned) (b : Bool) → p.plan.idle ≡ b → ((broker_does s w p).events == w.events) ≡ b
unfolding broker_does
idle_by s w p true is = rw is (eq_itself w.events)
idle_by s w p false is = rw is (eq_next w.events)

event_idle : (s : Setup) (w : World) (e : Event) (v : BrokerView) (p : PlanView) (b : Bool) → IsBrokers e → in_range s e ≡ true → IsForeseen s w e v p → p.idle ≡ b → is_idle s w e ≡ b
event_idle s w e v p b brokers within f is =
    ap (λ (u : World). u.events == w.events) (done_is s w e brokers within)
    ∙ idle_by s w (event_plan s w e) b (sym (idle_is v.site v.broker (plan_in s w e) p f.prepared) ∙ is)

items_if : (s : Setup) (w : World) (e : Event) (b : Bool) → is_idle s w e ≡ b
    → event_items s w e ≡ (if b then [] else Begins (w.events + 1) ∷ plan_items s w (all_writes (planned s w e)) e)
unfolding event_items
items_if s w e b is = ap (λ (c : Bool). if c then [] else Begins (w.events + 1) ∷ plan_items s w (all_writes (planned s w e)) e) is

-- an event of a broker that was not enabled has no line
pub rests_told : (s : Setup) (old new : WorldView) (w : World) (e : Event) (text : List ℕ) → SameWorld old new → Stands s (kept_of old) w → Stands s (idled (kept_of new)) (happens s w e)
    → text ≡ text ++ item_lines s (event_items s w e)
rests_told s old new w e text same stands next =
    let idle : is_idle s w e ≡ true = eq-eqb (happens s w e).events w.events (sym next.events ∙ (ap (λ (k : Kept). k.events) same.kept ∙ stands.events)) in
    nothing_told s (event_items s w e) text (items_if s w e true idle)

pub event_told : (s : Setup) (w : World) (e : Event) (v : BrokerView) (p : PlanView) (k events : ℕ) (old new : List ℕ) → IsBrokers e → IsEvent s e → IsForeseen s w e v p
    → p.idle ≡ false → k ≡ length p.writes → events ≡ w.events → new ≡ text_of s old events v e p k → new ≡ old ++ item_lines s (event_items s w e)
event_told s w e v p k events old new brokers here f busy all counts told =
    let within = in_range_is s e here in
    let many : k ≡ all_writes (planned s w e) =
    all ∙ (sym (length_of_map _ p.writes) ∙ (ap (λ (q : Plan). length q.writes) f.prepared.steps ∙ ap (λ (o : Option Planned). all_writes o) (sym (planned_is s w e brokers within)))) in
    foretold s w e v p k events old new brokers within f counts told
    ∙ (ap (λ (n : ℕ). old ++ item_lines s (Begins (w.events + 1) ∷ plan_items s w n e)) many
    ∙ ap (λ (is : List Item). old ++ item_lines s is) (sym (items_if s w e false (event_idle s w e v p false brokers within f busy))))

-- a stop in the midst of one is never idle
halts_busy : (s : Setup) (w : World) (k : ℕ) (p : Planned) → ((broker_halts s w k p).events == w.events) ≡ false
unfolding broker_halts
halts_busy s w k p = eq_next w.events

pub halt_told : (s : Setup) (w : World) (e : Event) (v : BrokerView) (p : PlanView) (k events : ℕ) (old new : List ℕ) → IsBrokers e → IsEvent s e → IsForeseen s w e v p
    → events ≡ w.events → new ≡ text_of s old events v e p k → new ≡ old ++ item_lines s (halt_items s w k e)
unfolding halt_items
halt_told s w e v p k events old new brokers here f counts told =
    let within = in_range_is s e here in
    let busy : ((halts_planned s w k (planned s w e)).events == w.events) ≡ false =
    ap (λ (o : Option Planned). (halts_planned s w k o).events == w.events) (planned_is s w e brokers within) ∙ halts_busy s w k (event_plan s w e) in
    foretold s w e v p k events old new brokers within f counts told
    ∙ ap (λ (b : Bool). old ++ item_lines s (if b then [] else Begins (w.events + 1) ∷ plan_items s w k e)) (sym busy)

-- ---- an event of a client

no_plan : (s : Setup) (w : World) (e : Event) → IsClients e → planned s w e ≡ None
unfolding planned
no_plan s w (event.Go c) h = by (in_range s (event.Go c))
  where
    by : (b : Bool) → (if b then planned_in s w (event.Go c) else None) ≡ None
    by true = refl
    by false = refl
no_plan s w (event.Get c) h = by (in_range s (event.Get c))
  where
    by : (b : Bool) → (if b then planned_in s w (event.Get c) else None) ≡ None
    by true = refl
    by false = refl
no_plan s w (event.Reconnect c) h = by (in_range s (event.Reconnect c))
  where
    by : (b : Bool) → (if b then planned_in s w (event.Reconnect c) else None) ≡ None
    by true = refl
    by false = refl
no_plan s w (event.Serve x c) h = absurd h
no_plan s w (event.Drop x c) h = absurd h
no_plan s w (event.Reset t x y) h = absurd h
no_plan s w (event.Read t x y) h = absurd h
no_plan s w (event.Take t x y f) h = absurd h
no_plan s w (event.Receipt t x y f) h = absurd h
no_plan s w (event.Snap t x) h = absurd h
no_plan s w (event.Offer t x n) h = absurd h
no_plan s w (event.Seek t x n to) h = absurd h
no_plan s w (event.Restart t x) h = absurd h

client_items : (s : Setup) (w : World) (e : Event) (b : Bool) → IsClients e → is_idle s w e ≡ b → event_items s w e ≡ (if b then [] else Begins (w.events + 1) ∷ [])
client_items s w e b h is =
    items_if s w e b is ∙ ap (λ (o : Option Planned). if b then [] else Begins (w.events + 1) ∷ planned_items s w (all_writes o) e o) (no_plan s w e h)

-- by the counts before and after it
pub client_still : (s : Setup) (old new : WorldView) (w : World) (e : Event) (text : List ℕ) (unit : Unit {0}) → IsClients e → Stands s (kept_of old) w
    → Leads s old new (happens s w e) (Ok unit) → new.events ≡ old.events → text ≡ text ++ item_lines s (event_items s w e)
client_still s old new w e text unit h stands leads same =
    let idle : is_idle s w e ≡ true = eq-eqb (happens s w e).events w.events (sym leads.done.0.events ∙ (same ∙ stands.events)) in
    nothing_told s (event_items s w e) text (client_items s w e true h idle)

pub client_told : (s : Setup) (old new : WorldView) (w : World) (e : Event) (text more : List ℕ) (unit : Unit {0}) → IsClients e → Stands s (kept_of old) w
    → Leads s old new (happens s w e) (Ok unit) → (new.events ≡ old.events → ⊥) → more ≡ text ++ (item_line s (Begins (old.events + 1)) ++ 10 ∷ [])
    → more ≡ text ++ item_lines s (event_items s w e)
client_told s old new w e text more unit h stands leads other told =
    let busy : is_idle s w e ≡ false = eq_apart (happens s w e).events w.events (λ same. other (leads.done.0.events ∙ (same ∙ sym stands.events))) in
    begin_told s (w.events + 1) (event_items s w e) text more (client_items s w e false h busy)
    (told ∙ ap (λ (n : ℕ). text ++ (item_line s (Begins (n + 1)) ++ 10 ∷ [])) stands.events)

-- ---- where it leads

pub next_fits : (b : WorldView) → IsWithin b → b.events + 1 < 2 ^ 64
next_fits b h = let few = h.few in omega (arith, few)

-- want of memory says nothing of a run
abbrev IsWant : {T : Type 0} → Result T RunFault → Type 0
IsWant (Err fault.Memory) = Unit {0}
IsWant r = ⊥

pub leads_wants : (s : Setup) (old new : WorldView) (v : World) → Leads s old new v (Err fault.Memory)
leads_wants s old new v = record { done = tt; large = λ n is. absurd (subst (λ (a : Result (Unit {0}) RunFault). IsWant a) is tt) }

-- where the world was the same before
pub leads_from : (s : Setup) (old mid new : WorldView) (next : World) (r : Result (Unit {0}) RunFault) → Leads s mid new next r → Leads s old new next r
leads_from s old mid new next r leads = record { done = leads.done; large = leads.large }

pub past_from : (old mid new : WorldView) (r : Result (Unit {0}) RunFault) → SameWorld old mid → OnErr r (SameWorld mid new) → (n : ℕ) → r ≡ Err (fault.TooLarge n) → SameWorld old new
past_from old mid new r same err n is =
    let still : SameWorld mid new = subst (λ (a : Result (Unit {0}) RunFault). OnErr a (SameWorld mid new)) is err in
    record { kept = still.kept ∙ same.kept; brokers = λ s there. still.brokers s (same.brokers s there) }

-- ---- the broker that was foreseen

pub there : (s : Setup) (e : Event) (brokers : List BrokerView) (broker_ref : BrokerRef) (u : BrokerView) → IsBrokerOf s e broker_ref → u ≡ node_at brokers (node s broker_ref.topic broker_ref.cluster)
    → u ≡ node_at brokers (node_of s e)
there s e brokers broker_ref u at is =
    is ∙ ap (λ (t : ℕ). node_at brokers (node s t broker_ref.cluster)) at.topic ∙ ap (λ (x : ℕ). node_at brokers (node s (topic_of s e) x)) at.cluster

pub foreseen_there : (s : Setup) (w : World) (e : Event) (u v : BrokerView) (p : PlanView) → u ≡ v → IsForeseen s w e v p → IsForeseen s w e u p
foreseen_there s w e u v p is f = subst (λ (z : BrokerView). IsForeseen s w e z p) (sym is) f

reads_in : (s : Setup) (e : Event) (h : Site) → length h.clusters ≡ length s.clusters → IsEvent s e → ReadsWithin h e
reads_in s (event.Read t x y) h many here = rw many here.target_in
reads_in s (event.Serve x c) h many here = tt
reads_in s (event.Drop x c) h many here = tt
reads_in s (event.Reset t x y) h many here = tt
reads_in s (event.Take t x y f) h many here = tt
reads_in s (event.Receipt t x y f) h many here = tt
reads_in s (event.Snap t x) h many here = tt
reads_in s (event.Offer t x n) h many here = tt
reads_in s (event.Seek t x n to) h many here = tt
reads_in s (event.Restart t x) h many here = tt
reads_in s (event.Go c) h many here = tt
reads_in s (event.Get c) h many here = tt
reads_in s (event.Reconnect c) h many here = tt

-- a read there goes to one of its clusters
pub reads_there : (s : Setup) (w : World) (e : Event) (v : BrokerView) (p : PlanView) → IsForeseen s w e v p → IsEvent s e → ReadsWithin v.site e
reads_there s w e v p f here = reads_in s e v.site (ap (λ (h : Site). length h.clusters) f.node.site) here

pub fits_there : (s : Setup) (w : World) (e : Event) (v : BrokerView) (p : PlanView) → IsForeseen s w e v p → PlanFits v.site.per_ledger v.broker p
fits_there s w e v p f = f.prepared.fits
