-- What is told of a step in parts, its head and then what changed, is what the definition has of it.
use Rattle.std.proofs.Common.{◌≡◌, ℕ, ◌<◌, ◌==◌, Bool, true, false, List, [], ◌∷◌, ◌++◌, length, map, drop, append_assoc, refl, sym, ◌∙◌, ap, subst}
use Rattle.std.proofs.lemmas.Bool.{eq-eqb}
use Rattle.std.proofs.lemmas.List.{append-nil}
use Rattle.std.specs.Prelude.{Ok, Err, OnOk, Option, Result, codes, decimal, if◌then◌else◌, slice_index_or}
use Rattle.broker.specs.Node.{BrokerView}
use Rattle.broker.proofs.Ready.{idle_is}
use Rattle.broker_state.specs.Plan.{PlanView}
use Rattle.geo_base.specs.declared.event.Event.{Event}
use Rattle.geo_base.specs.declared.event.Event.TheVariants as event
use Rattle.geo_base.specs.declared.event.Step.TheVariants as step
use Rattle.geo_base.specs.Broker.{Broker, Site}
use Rattle.geo_base.specs.Client.{Client, new_client}
use Rattle.geo_base.specs.Happening.{broker_does, broker_halts, halts_planned, happens}
use Rattle.geo_base.specs.Nodes.{BrokerNode, ClientNode, Node, node_of as machine_node}
use Rattle.geo_base.specs.Planned.{Planned, planned}
use Rattle.geo_base.specs.Report.{with_line_feeds, words}
use Rattle.geo_base.specs.Setup.{Declared, Setup, declared_at, topic_name}
use Rattle.geo_base.specs.World.{World, client_at, node, site, topic_at}
use Rattle.geo_base.specs.declared.memory.Memory.{Memory}
use Rattle.script_rows.specs.Names.{Names}
use Rattle.script_rows.specs.Written.{step_line}
use Rattle.script_text.specs.Naming.{names_of}
use Rattle.script_text.specs.Scenario.{IsEvent}
use Rattle.step_laws.specs.Steps.{Changed, Did, ReportChange, WasIdle, broker_changes, change_line, changed_at, changed_lines, client_changes, did_or_idle, event_lines, indented, step_head, unless_none}
use Rattle.step_lines.specs.declared.heads.Indent.{Indent}
use Rattle.step_lines.specs.declared.heads.Indent.TheVariants as indent
use Rattle.step_lines.specs.declared.noted.NotedBroker.{NotedBroker}
use Rattle.step_lines.specs.Changes.{place_line, placed, stood_lines}
use Rattle.step_lines.specs.Noted.{client_told as told_of_client}
use Rattle.step_lines.specs.Resting.{IsSeen, MayRest}
use Rattle.step_lines.specs.declared.telling.Telling.{Telling as StepText}
use Rattle.step_lines.specs.Texts.{telling_of}
use Rattle.step_lines.specs.Telling.{IsActed, IsClients, IsTelling, Telling, client_step, first_said, next_number, tells_at, tells_begin, tells_changed, tells_done, tells_event, tells_head, tells_settling, tells_step}
use Rattle.world.specs.declared.fault.RunFault.{RunFault}
use Rattle.world.specs.declared.fault.RunFault.TheVariants as fault
use Rattle.world.specs.ClientSteps.{client_in as log_client}
use Rattle.world.specs.Foreseen.{IsForeseen}
use Rattle.world.specs.Settling.{settled_by}
use Rattle.world.specs.Steps.{IsBrokerOf}
use Rattle.world.specs.World.{IsAt, SameWorld, WorldView, kept_of, node_at}
use Rattle.world.specs.declared.broker_ref.BrokerRef.{BrokerRef}
use Rattle.world.proofs.ClientEvents.{client_below}
use Rattle.world.proofs.Places.{in_range_is, node_below, node_is, stands_at}
use Rattle.kept_laws.proofs.Keeping.{done_is, event_plan, planned_is}
use Rattle.kept_laws.specs.Events.{IsBrokers, cluster_of, node_of, plan_in, topic_of}
use Rattle.kept_laws.specs.Kept.{Kept, idled}
use Rattle.kept_laws.specs.Standing.{Stands}
use Rattle.geo_base.proofs.Lists.{index_or_any}
use Rattle.geo_base.proofs.Sums.{eq_apart, eq_next}
pub use Rattle.geo_base.proofs.Results.{on_ok_always as always, on_ok_to as on_ok}

-- ---- lines

stood_step : (ls : List (List ℕ)) → stood_lines indent.Step ls ≡ with_line_feeds (map indented ls)
stood_step [] = refl
stood_step (l ∷ ls) = ap (λ (t : List ℕ). 32 ∷ 32 ∷ (l ++ (10 ∷ t))) (stood_step ls)

stood_event : (ls : List (List ℕ)) → stood_lines indent.Event ls ≡ with_line_feeds (map indented (map indented ls))
stood_event [] = refl
stood_event (l ∷ ls) = ap (λ (t : List ℕ). 32 ∷ 32 ∷ 32 ∷ 32 ∷ (l ++ (10 ∷ t))) (stood_event ls)

pub placed_is : (s : Setup) (t x : ℕ) (cs : List ReportChange)
    → changed_lines s (unless_none (BrokerNode t x) cs) ≡ placed (place_line (topic_name s t) (slice_index_or s.clusters x [])) cs
placed_is s t x [] = refl
placed_is s t x (c ∷ cs) = ap (λ (ls : List (List ℕ)). place_line (topic_name s t) (slice_index_or s.clusters x []) ∷ ls) (append-nil (map change_line (c ∷ cs)))

client_lines_are : (s : Setup) (c : ℕ) (cs : List ReportChange) → changed_lines s (unless_none (ClientNode c) cs) ≡ map change_line cs
client_lines_are s c [] = refl
client_lines_are s c (d ∷ ds) = append-nil (map change_line (d ∷ ds))

-- ---- a step: its head and what it changed

abbrev with_lines : Telling → Indent → List (List ℕ) → Telling
with_lines t i ls = record t { text = t.text ++ stood_lines i ls }

pub step_whole : (s : Setup) (at : List Changed) (ls : List (List ℕ)) (t : Telling) → changed_lines s at ≡ ls → with_lines (tells_head t false) indent.Step ls ≡ tells_step s t (Did at)
step_whole s at ls t lines =
    let h : List ℕ = step_head (next_number t.number t.said) (first_said t.said) [] in let x = stood_lines indent.Step ls in
    ap (λ (y : List ℕ). record { text = y; number = next_number t.number t.said; said = drop 1 t.said })
    (append_assoc t.text (h ++ 10 ∷ []) x
    ∙ ap (λ (y : List ℕ). t.text ++ y)
    (append_assoc h (10 ∷ []) x ∙ ap (λ (y : List ℕ). h ++ (10 ∷ y)) (stood_step ls ∙ ap (λ (ms : List (List ℕ)). with_line_feeds (map indented ms)) (sym lines))))

event_whole : (s : Setup) (n : ℕ) (e : Event) (at : List Changed) (ls : List (List ℕ)) (t : Telling) → changed_lines s at ≡ ls
    → with_lines (tells_event (names_of s) n e t) indent.Event ls ≡ tells_changed indent.Event s n e at t
event_whole s n e at ls t lines =
    let h : List ℕ = words (codes "event" ∷ decimal n ∷ step_line (names_of s) (step.Plain e) ∷ []) in let x = stood_lines indent.Event ls in
    let more : x ≡ with_line_feeds (map indented (map indented (changed_lines s at) ++ [])) =
    stood_event ls
    ∙ (ap (λ (ms : List (List ℕ)). with_line_feeds (map indented (map indented ms))) (sym lines)
    ∙ ap (λ (ms : List (List ℕ)). with_line_feeds (map indented ms)) (sym (append-nil (map indented (changed_lines s at))))) in
    ap (λ (y : List ℕ). record t { text = y })
    (append_assoc t.text (32 ∷ 32 ∷ (h ++ 10 ∷ [])) x
    ∙ ap (λ (y : List ℕ). t.text ++ (32 ∷ 32 ∷ y)) (append_assoc h (10 ∷ []) x ∙ ap (λ (y : List ℕ). h ++ (10 ∷ y)) more))

changed_whole : (i : Indent) (s : Setup) (n : ℕ) (e : Event) (at : List Changed) (ls : List (List ℕ)) (t : Telling) → changed_lines s at ≡ ls
    → with_lines (tells_begin i (names_of s) n e t) i ls ≡ tells_changed i s n e at t
changed_whole indent.Step s n e at ls t lines = step_whole s at ls t lines
changed_whole indent.Event s n e at ls t lines = event_whole s n e at ls t lines

-- an event at a broker that was b and is a
pub told_at : (i : Indent) (s : Setup) (names : Names) (n : ℕ) (e : Event) (b a : Broker) (t mid new : Telling) → names ≡ names_of s → mid ≡ tells_begin i names n e t
    → new ≡ record mid { text = mid.text ++ stood_lines i (placed (place_line (topic_name s (topic_of s e)) (slice_index_or s.clusters (cluster_of e) [])) (broker_changes s.clusters (cluster_of e) b a)) }
    → new ≡ tells_at i s n e b a t
told_at i s names n e b a t mid new named begun told =
    let x = cluster_of e in let ls = placed (place_line (topic_name s (topic_of s e)) (slice_index_or s.clusters x [])) (broker_changes s.clusters x b a) in
    told
    ∙ (ap (λ (m : Telling). with_lines m i ls) (begun ∙ ap (λ (k : Names). tells_begin i k n e t) named)
    ∙ changed_whole i s n e (unless_none (BrokerNode (topic_of s e) x) (broker_changes s.clusters x b a)) ls t (placed_is s (topic_of s e) x (broker_changes s.clusters x b a)))

-- ---- whose an event is

broker_node : (s : Setup) (e : Event) → IsBrokers e → machine_node s e ≡ BrokerNode (topic_of s e) (cluster_of e)
broker_node s (event.Serve x c) h = refl
broker_node s (event.Drop x c) h = refl
broker_node s (event.Reset t x y) h = refl
broker_node s (event.Read t x y) h = refl
broker_node s (event.Take t x y f) h = refl
broker_node s (event.Receipt t x y f) h = refl
broker_node s (event.Snap t x) h = refl
broker_node s (event.Offer t x n) h = refl
broker_node s (event.Seek t x n to) h = refl
broker_node s (event.Restart t x) h = refl
broker_node s (event.Go c) h = absurd h
broker_node s (event.Get c) h = absurd h
broker_node s (event.Reconnect c) h = absurd h

client_node : (s : Setup) (c : ℕ) (e : Event) → IsClients c e → machine_node s e ≡ ClientNode c
client_node s c (event.Go d) h = ap (λ (n : ℕ). ClientNode n) h
client_node s c (event.Get d) h = ap (λ (n : ℕ). ClientNode n) h
client_node s c (event.Reconnect d) h = ap (λ (n : ℕ). ClientNode n) h
client_node s c (event.Serve x d) h = absurd h
client_node s c (event.Drop x d) h = absurd h
client_node s c (event.Reset t x y) h = absurd h
client_node s c (event.Read t x y) h = absurd h
client_node s c (event.Take t x y f) h = absurd h
client_node s c (event.Receipt t x y f) h = absurd h
client_node s c (event.Snap t x) h = absurd h
client_node s c (event.Offer t x n) h = absurd h
client_node s c (event.Seek t x n to) h = absurd h
client_node s c (event.Restart t x) h = absurd h

pub client_in : (s : Setup) (c : ℕ) (e : Event) → IsClients c e → IsEvent s e → c < length s.clients
client_in s c (event.Go d) h here = subst (λ (n : ℕ). n < length s.clients) h here
client_in s c (event.Get d) h here = subst (λ (n : ℕ). n < length s.clients) h here
client_in s c (event.Reconnect d) h here = subst (λ (n : ℕ). n < length s.clients) h here
client_in s c (event.Serve x d) h here = absurd h
client_in s c (event.Drop x d) h here = absurd h
client_in s c (event.Reset t x y) h here = absurd h
client_in s c (event.Read t x y) h here = absurd h
client_in s c (event.Take t x y f) h here = absurd h
client_in s c (event.Receipt t x y f) h here = absurd h
client_in s c (event.Snap t x) h here = absurd h
client_in s c (event.Offer t x n) h here = absurd h
client_in s c (event.Seek t x n to) h here = absurd h
client_in s c (event.Restart t x) h here = absurd h

-- ---- whether it is idle

does_busy : (s : Setup) (w : World) (p : Planned) → p.plan.idle ≡ false → ((broker_does s w p).events == w.events) ≡ false
unfolding broker_does
does_busy s w p is = rw is (eq_next w.events)

event_busy : (s : Setup) (w : World) (e : Event) (v : BrokerView) (p : PlanView) → IsBrokers e → IsEvent s e → IsForeseen s w e v p → p.idle ≡ false
    → ((happens s w e).events == w.events) ≡ false
event_busy s w e v p brokers here f is =
    let within = in_range_is s e here in
    ap (λ (u : World). u.events == w.events) (done_is s w e brokers within) ∙ does_busy s w (event_plan s w e) (sym (idle_is v.site v.broker (plan_in s w e) p f.prepared) ∙ is)

halts_busy : (s : Setup) (w : World) (k : ℕ) (p : Planned) → ((broker_halts s w k p).events == w.events) ≡ false
unfolding broker_halts
halts_busy s w k p = eq_next w.events

halt_busy : (s : Setup) (w : World) (k : ℕ) (e : Event) → IsBrokers e → IsEvent s e → ((halts_planned s w k (planned s w e)).events == w.events) ≡ false
halt_busy s w k e brokers here =
    ap (λ (o : Option Planned). (halts_planned s w k o).events == w.events) (planned_is s w e brokers (in_range_is s e here)) ∙ halts_busy s w k (event_plan s w e)

-- one that was not enabled
pub rests : (i : Indent) (s : Setup) (old mid : WorldView) (w : World) (e : Event) (t : Telling) → SameWorld old mid → Stands s (kept_of old) w → Stands s (idled (kept_of mid)) (happens s w e)
    → IsActed i s w e t t (Ok false)
rests i s old mid w e t same stands next =
    (refl, eq-eqb (happens s w e).events w.events (sym next.events ∙ (ap (λ (k : Kept). k.events) same.kept ∙ stands.events)))

-- ---- from the world before to the world after

done_is_at : (i : Indent) (s : Setup) (w v : World) (e : Event) (t : Telling) → IsBrokers e
    → tells_done i s w v e t ≡ tells_at i s v.events e (topic_at s w (topic_of s e) (cluster_of e)) (topic_at s v (topic_of s e) (cluster_of e)) t
done_is_at i s w v e t brokers = ap (λ (n : Node). tells_changed i s v.events e (changed_at s w v n) t) (broker_node s e brokers)

-- the broker of an event, noted in a world that stands for w, and told in one that stands for v
told_between : (i : Indent) (s : Setup) (w v : World) (old new : WorldView) (e : Event) (t u : Telling) → IsBrokers e → IsEvent s e → IsAt s old → IsAt s new
    → Stands s (kept_of old) w → Stands s (kept_of new) v
    → u ≡ tells_at i s new.events e (node_at old.brokers (node_of s e)).broker (node_at new.brokers (node_of s e)).broker t
    → u ≡ tells_done i s w v e t
told_between i s w v old new e t u brokers here at at' stands stands' told =
    let n = node_of s e in let b = (node_at old.brokers n).broker in let a = (node_at new.brokers n).broker in
    let before : b ≡ topic_at s w (topic_of s e) (cluster_of e) = stands_at s old w n stands (node_below s old e at brokers here) in
    let behind : a ≡ topic_at s v (topic_of s e) (cluster_of e) = stands_at s new v n stands' (node_below s new e at' brokers here) in
    told
    ∙ (ap (λ (m : ℕ). tells_at i s m e b a t) stands'.events
    ∙ (ap (λ (c : Broker). tells_at i s v.events e c a t) before
    ∙ (ap (λ (c : Broker). tells_at i s v.events e (topic_at s w (topic_of s e) (cluster_of e)) c t) behind ∙ sym (done_is_at i s w v e t brokers))))

pub acted : (i : Indent) (s : Setup) (w : World) (old new : WorldView) (e : Event) (p : PlanView) (t u : Telling) → IsBrokers e → IsEvent s e → IsAt s old → IsAt s new
    → Stands s (kept_of old) w → Stands s (kept_of new) (happens s w e) → IsForeseen s w e (node_at old.brokers (node_of s e)) p → p.idle ≡ false
    → u ≡ tells_at i s new.events e (node_at old.brokers (node_of s e)).broker (node_at new.brokers (node_of s e)).broker t
    → IsActed i s w e t u (Ok true)
acted i s w old new e p t u brokers here at at' stands stands' foreseen busy told =
    (told_between i s w (happens s w e) old new e t u brokers here at at' stands stands' told, event_busy s w e (node_at old.brokers (node_of s e)) p brokers here foreseen busy)

-- a stop in its midst
pub halted : (s : Setup) (w : World) (count : ℕ) (old new : WorldView) (e : Event) (t u : Telling) → IsBrokers e → IsEvent s e → IsAt s old → IsAt s new
    → Stands s (kept_of old) w → Stands s (kept_of new) (halts_planned s w count (planned s w e))
    → u ≡ tells_at indent.Step s new.events e (node_at old.brokers (node_of s e)).broker (node_at new.brokers (node_of s e)).broker t
    → u ≡ tells_step s t (did_or_idle s w (halts_planned s w count (planned s w e)) e)
halted s w count old new e t u brokers here at at' stands stands' told =
    let v = halts_planned s w count (planned s w e) in
    told_between indent.Step s w v old new e t u brokers here at at' stands stands' told
    ∙ ap (λ (b : Bool). tells_step s t (if b then WasIdle else Did (changed_at s w v (machine_node s e)))) (sym (halt_busy s w count e brokers here))

-- ---- an event of a broker, as a step and as one of settling

pub step_told : (s : Setup) (w : World) (e : Event) (t u : Telling) (enabled : Bool) → enabled ≡ true → IsActed indent.Step s w e t u (Ok enabled) → u ≡ tells_step s t (did_or_idle s w (happens s w e) e)
step_told s w e t u true is h =
    h.0 ∙ ap (λ (b : Bool). tells_step s t (if b then WasIdle else Did (changed_at s w (happens s w e) (machine_node s e)))) (sym h.1)
step_told s w e t u false is h = cc

pub idle_told : (s : Setup) (w : World) (e : Event) (t mid u : Telling) (enabled : Bool) → enabled ≡ false → IsActed indent.Step s w e t mid (Ok enabled) → u ≡ tells_head mid true
    → u ≡ tells_step s t (did_or_idle s w (happens s w e) e)
idle_told s w e t mid u true is h told = cc
idle_told s w e t mid u false is h told =
    told
    ∙ (ap (λ (m : Telling). tells_head m true) h.0
    ∙ ap (λ (b : Bool). tells_step s t (if b then WasIdle else Did (changed_at s w (happens s w e) (machine_node s e)))) (sym h.1))

-- an event of settling, which does not count where it is idle
same_changed : (s : Setup) (w : World) (e : Event) (n : Node) → changed_at s w (settled_by s w e) n ≡ changed_at s w (happens s w e) n
same_changed s w e (BrokerNode t x) = refl
same_changed s w e (ClientNode c) = refl

no_more : (t : Telling) → t ≡ record t { text = t.text ++ [] }
no_more t = ap (λ (y : List ℕ). record t { text = y }) (sym (append-nil t.text))

pub settling_told : (s : Setup) (w : World) (e : Event) (t u : Telling) (enabled : Bool) → IsActed indent.Event s w e t u (Ok enabled) → u ≡ tells_settling s w e t
settling_told s w e t u true h =
    let n = machine_node s e in
    let lines : Bool → List Changed → Telling =
    λ b at. record t { text = t.text ++ with_line_feeds (map indented (event_lines (step_line (names_of s)) s (if b then [] else record { event = e; number = (happens s w e).events; at = at } ∷ []))) } in
    h.0 ∙ (ap (λ (at : List Changed). lines false at) (sym (same_changed s w e n)) ∙ ap (λ (b : Bool). lines b (changed_at s w (settled_by s w e) n)) (sym h.1))
settling_told s w e t u false h =
    let n = machine_node s e in
    let lines : Bool → Telling =
    λ b. record t { text = t.text ++ with_line_feeds (map indented (event_lines (step_line (names_of s)) s (if b then [] else record { event = e; number = (happens s w e).events; at = changed_at s w (settled_by s w e) n } ∷ []))) } in
    h.0 ∙ (no_more t ∙ ap (λ (b : Bool). lines b) (sym h.1))

-- ---- a client

-- what is told where it was not idle
pub client_whole : (s : Setup) (c : ℕ) (k m : Client) (t mid new : Telling) → mid ≡ tells_head t false
    → new ≡ record mid { text = mid.text ++ stood_lines indent.Step (map change_line (client_changes s c k m)) } → new ≡ tells_step s t (client_step s c false k m)
client_whole s c k m t mid new head told =
    let cs = client_changes s c k m in
    told
    ∙ (ap (λ (n : Telling). with_lines n indent.Step (map change_line cs)) head ∙ step_whole s (unless_none (ClientNode c) cs) (map change_line cs) t (client_lines_are s c cs))

pub client_told : (s : Setup) (c : ℕ) (e : Event) (w : World) (old new : WorldView) (k m : Client) (t u : Telling) → IsClients c e → Stands s (kept_of old) w → Stands s (kept_of new) (happens s w e)
    → k ≡ client_at s w c → m ≡ client_at s (happens s w e) c → u ≡ tells_step s t (client_step s c (new.events == old.events) k m)
    → u ≡ tells_step s t (did_or_idle s w (happens s w e) e)
client_told s c e w old new k m t u clients before behind is is' told =
    let v = happens s w e in
    told
    ∙ (ap (λ (j : Client). tells_step s t (client_step s c (new.events == old.events) j m)) is
    ∙ (ap (λ (j : Client). tells_step s t (client_step s c (new.events == old.events) (client_at s w c) j)) is'
    ∙ (ap (λ (n : ℕ). tells_step s t (client_step s c (n == old.events) (client_at s w c) (client_at s v c))) behind.events
    ∙ (ap (λ (n : ℕ). tells_step s t (client_step s c (v.events == n) (client_at s w c) (client_at s v c))) before.events
    ∙ ap (λ (n : Node). tells_step s t (if v.events == w.events then WasIdle else Did (changed_at s w v n))) (sym (client_node s c e clients))))))

-- ---- answers

-- want of memory passes no limit
abbrev IsWant : {T : Type 0} → Result T RunFault → Type 0
IsWant (Err fault.Memory) = Unit {0}
IsWant r = ⊥

abbrev wanting : (T : Type 0) → Result T RunFault
wanting T = Err fault.Memory

pub wants_no_limit : (T X : Type 0) (n : ℕ) → wanting T ≡ Err (fault.TooLarge n) → X
wants_no_limit T X n is = absurd (subst (λ (a : Result T RunFault). IsWant a) is tt)

abbrev answering : Bool → Result Bool RunFault
answering b = Ok b

-- nor does it answer, and an answer passes no limit
pub never_answered : {X : Type 0} → wanting Bool ≡ answering false → X
never_answered is = absurd (subst (λ (a : Result Bool RunFault). IsWant a) is tt)

abbrev IsAnswer : Result Bool RunFault → Type 0
IsAnswer (Ok b) = Unit {0}
IsAnswer (Err f) = ⊥

pub ok_exceeds_none : {X : Type 0} {b : Bool} {n : ℕ} → answering b ≡ Err (fault.TooLarge n) → X
ok_exceeds_none is = absurd (subst (λ (a : Result Bool RunFault). IsAnswer a) is tt)

-- ---- where the text is as before

pub from_same : (s : Setup) (old new : StepText) → new ≡ old → IsTelling s old.names old.number old.said → IsTelling s new.names new.number new.said
from_same s old new is h = subst (λ (t : StepText). IsTelling s t.names t.number t.said) (sym is) h

pub from_text : (i : Indent) (s : Setup) (b : WorldView) (e : Event) (c : Broker) (old mid : StepText) (u : Telling) → mid ≡ old
    → u ≡ tells_at i s b.events e c (node_at b.brokers (node_of s e)).broker (telling_of mid) → u ≡ tells_at i s b.events e c (node_at b.brokers (node_of s e)).broker (telling_of old)
from_text i s b e c old mid u is told = told ∙ ap (λ (t : StepText). tells_at i s b.events e c (node_at b.brokers (node_of s e)).broker (telling_of t)) is

-- ---- the broker of an event

pub place_there : (s : Setup) (e : Event) (brokers : List BrokerView) (broker_ref : BrokerRef) (u : BrokerView) → IsBrokerOf s e broker_ref → u ≡ node_at brokers (node s broker_ref.topic broker_ref.cluster)
    → u ≡ node_at brokers (node_of s e)
place_there s e brokers broker_ref u at is =
    is ∙ ap (λ (t : ℕ). node_at brokers (node s t broker_ref.cluster)) at.topic ∙ ap (λ (x : ℕ). node_at brokers (node s (topic_of s e) x)) at.cluster

abbrev SeenAs : Bool → ℕ → Broker → NotedBroker → Result (Unit {0}) Memory → Type 0
SeenAs rests n b k r = OnOk r (IsSeen rests n b k)

pub noted_there : (rests : Bool) (s : Setup) (old : WorldView) (e : Event) (u : BrokerView) (k : NotedBroker) (r : Result (Unit {0}) Memory) → IsAt s old → IsBrokers e → IsEvent s e
    → u ≡ node_at old.brokers (node_of s e) → OnOk r (IsSeen rests (length u.site.clusters) u.broker k) → OnOk r (IsSeen rests (length s.clusters) (node_at old.brokers (node_of s e)).broker k)
noted_there rests s old e u k r at brokers here is noted =
    let v = node_at old.brokers (node_of s e) in
    let site : v.site.clusters ≡ s.clusters = ap (λ (h : Site). h.clusters) (node_is s old e at brokers here).site in
    subst (λ (names : List (List ℕ)). SeenAs rests (length names) v.broker k r) site (subst (λ (z : BrokerView). SeenAs rests (length z.site.clusters) z.broker k r) is noted)

pub told_here : (rests : Bool) (i : Indent) (s : Setup) (names : Names) (old : WorldView) (e : Event) (b : Broker) (u : BrokerView) (k : NotedBroker) (topic : List ℕ) (number : ℕ) (t mid : Telling) (lines : List ℕ)
    (r : Result (Unit {0}) Memory) → names ≡ names_of s → IsAt s old → IsBrokers e → IsEvent s e → u ≡ node_at old.brokers (node_of s e) → number ≡ old.events → topic ≡ topic_name s (topic_of s e)
    → mid ≡ tells_begin i names number e t
    → (IsSeen rests (length u.site.clusters) b k → MayRest rests b u.broker
    → OnOk r (lines ≡ mid.text ++ stood_lines i (placed (place_line topic (slice_index_or u.site.clusters u.site.own [])) (broker_changes u.site.clusters u.site.own b u.broker))))
    → IsSeen rests (length s.clusters) b k → MayRest rests b (node_at old.brokers (node_of s e)).broker → OnOk r (record mid { text = lines } ≡ tells_at i s old.events e b (node_at old.brokers (node_of s e)).broker t)
told_here rests i s names old e b u k topic number t mid lines (Err f) named at brokers here is counts titled begun told noted rested = tt
told_here rests i s names old e b u k topic number t mid lines (Ok unit) named at brokers here is counts titled begun told noted rested =
    let v = node_at old.brokers (node_of s e) in let y = topic_of s e in let x = cluster_of e in
    let broker_ref : v.site ≡ site s y x = (node_is s old e at brokers here).site in
    let under : Site → Broker → List ℕ → List ℕ =
    λ h a title. mid.text ++ stood_lines i (placed (place_line title (slice_index_or h.clusters h.own [])) (broker_changes h.clusters h.own b a)) in
    let known : IsSeen rests (length u.site.clusters) b k =
    subst (λ (z : BrokerView). IsSeen rests (length z.site.clusters) b k) (sym is) (subst (λ (h : Site). IsSeen rests (length h.clusters) b k) (sym broker_ref) noted) in
    let all : lines ≡ under (site s y x) v.broker (topic_name s y) =
    told known (subst (λ (z : BrokerView). MayRest rests b z.broker) (sym is) rested)
    ∙ (ap (λ (z : BrokerView). under z.site z.broker topic) is ∙ (ap (λ (h : Site). under h v.broker topic) broker_ref ∙ ap (λ (title : List ℕ). under (site s y x) v.broker title) titled)) in
    told_at i s names number e b v.broker t mid (record mid { text = lines }) named begun (ap (λ (z : List ℕ). record mid { text = z }) all)
    ∙ ap (λ (n : ℕ). tells_at i s n e b v.broker t) counts

-- the client of an event, as the machine has it
pub client_noted : (s : Setup) (b : WorldView) (w : World) (c : ℕ) (k : Client) → IsAt s b → c < length s.clients → Stands s (kept_of b) w → slice_index_or b.clients c k ≡ k → k ≡ client_at s w c
client_noted s b w c k at lt stands is =
    let within = client_below s b c at lt in
    sym is ∙ (index_or_any b.clients c k (new_client (declared_at s c)) within ∙ ap (λ (ks : List Client). slice_index_or ks c (new_client (declared_at s c))) stands.clients)

pub client_seen : (s : Setup) (b : WorldView) (c : ℕ) (k : Client) → c < length b.clients → slice_index_or b.clients c k ≡ k → k ≡ log_client b.clients c
client_seen s b c k within is = sym is ∙ index_or_any b.clients c k _ within

-- ---- a step of a client, by the counts before and after it

pub client_rests : (s : Setup) (c : ℕ) (k m : Client) (t u : Telling) (n b : ℕ) (r : Result (Unit {0}) Memory) → n ≡ b → OnOk r (u ≡ tells_head t true)
    → OnOk r (u ≡ tells_step s t (client_step s c (n == b) k m))
client_rests s c k m t u n b r same told =
    on_ok (u ≡ tells_head t true) (u ≡ tells_step s t (client_step s c (n == b) k m)) r
    (λ is. is ∙ ap (λ (idle : Bool). tells_step s t (client_step s c idle k m)) (sym (eq-eqb n b same))) told

pub client_done : (s : Setup) (c : ℕ) (k m seen : Client) (d : Declared) (t mid : Telling) (lines : List ℕ) (n b : ℕ) (r : Result (Unit {0}) Memory) → (n ≡ b → ⊥) → m ≡ seen → d ≡ declared_at s c
    → mid ≡ tells_head t false → OnOk r (lines ≡ mid.text ++ stood_lines indent.Step (map change_line (told_of_client s d k m)))
    → OnOk r (record mid { text = lines } ≡ tells_step s t (client_step s c (n == b) k seen))
client_done s c k m seen d t mid lines n b (Err f) apart is declared head told = tt
client_done s c k m seen d t mid lines n b (Ok u) apart is declared head told =
    let all : lines ≡ mid.text ++ stood_lines indent.Step (map change_line (client_changes s c k seen)) =
    told
    ∙ (ap (λ (e : Declared). mid.text ++ stood_lines indent.Step (map change_line (told_of_client s e k m))) declared
    ∙ ap (λ (j : Client). mid.text ++ stood_lines indent.Step (map change_line (told_of_client s (declared_at s c) k j))) is) in
    client_whole s c k seen t mid (record mid { text = lines }) head (ap (λ (z : List ℕ). record mid { text = z }) all)
    ∙ ap (λ (idle : Bool). tells_step s t (client_step s c idle k seen)) (sym (eq_apart n b apart))

pub clusters_there : (s : Setup) (old : WorldView) (e : Event) (u : BrokerView) (n : ℕ) → IsAt s old → IsBrokers e → IsEvent s e → u ≡ node_at old.brokers (node_of s e) → n ≡ length s.clusters → n ≡ length u.site.clusters
clusters_there s old e u n at brokers here is many =
    many ∙ sym (ap (λ (z : BrokerView). length z.site.clusters) is ∙ ap (λ (h : Site). length h.clusters) (node_is s old e at brokers here).site)
