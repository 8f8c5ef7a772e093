-- What the lines of a run's trace settle is what the run settles.
use Rattle.std.proofs.Common.{◌≡◌, ℕ, zero, suc, ◌+◌, ◌<◌, Bool, true, false, List, [], ◌∷◌, ◌++◌, length, map, refl, sym, ap, subst, ◌∙◌, ◌==◌, arith, inl, inr}
use Rattle.std.specs.Prelude.{◌⊎◌, ◌||◌, Option, Some, None, if◌then◌else◌, is_some, nat_lt, take}
use Rattle.std.specs.List.{list_any}
use Rattle.std.proofs.lemmas.Bool.{false≢true, ltb-true}
use Rattle.std.proofs.lemmas.Bool.Decides.{nat_tests}
use Rattle.std.proofs.lemmas.List.{append_assoc}
use Rattle.world_laws.proofs.Types.{Entry, Event, Ident, Packet, Position, Step, Write}
use Rattle.world_laws.proofs.Types.event
use Rattle.world_laws.proofs.Types.step
use Rattle.geo_base.specs.Audit.{settled_from}
use Rattle.geo_base.specs.Broker.{Broker, Site}
use Rattle.geo_base.specs.Entry.{same_ident}
use Rattle.geo_base.specs.Happening.{broker_does, broker_halts, does_planned, halts_planned, happens}
use Rattle.geo_base.specs.Link.{next_packet}
use Rattle.geo_base.specs.Mirror.{Mirrors, opening_mirrors}
use Rattle.geo_base.specs.Plan.{Plan}
use Rattle.geo_base.specs.Planned.{Planned, in_range, plan_at, plan_taking, planned, planned_in}
use Rattle.geo_base.specs.Run.{Ran, all_limits, all_settle, budget, counting_round, pairs, resets_of, round_of, steps}
use Rattle.geo_base.specs.Safe.{OnlySettled}
use Rattle.geo_base.specs.Scripted.{IsScripted}
use Rattle.geo_base.specs.Seeking.{seek}
use Rattle.geo_base.specs.Serving.{serve}
use Rattle.geo_base.specs.Settled.{IsSettled, SettledSoFar, settled_behind, settled_event, settled_step, settled_under}
use Rattle.geo_base.specs.Settled.{settled_from as settled_in_steps}
use Rattle.geo_base.specs.Setup.{Setup, declared_at, sub_name}
use Rattle.geo_base.specs.TraceItems.{Begins, Item}
use Rattle.geo_base.specs.Traced.{all_writes, cause_of, event_items, halt_items, items_from, planned_items, rounds_items, settling_items, step_items, traced, unless_ended}
use Rattle.geo_base.specs.World.{ToBroker, World, link_at, opening_world, site, topic_at}
use Rattle.world_laws.proofs.Replicating.Cursors.{either, or_left, or_right}
use Rattle.world_laws.proofs.Snapshotting.Asked.{named}
use Rattle.world_laws.proofs.KeptRuns.Loaded.{Tables, form_kept}
use Rattle.world_laws.proofs.Walks.OfferWalk.{seek_shape}
use Rattle.world_laws.proofs.ComesOver.Quiet.{plan_idles}
use Rattle.world_laws.proofs.Dispatching.Remembers.{any_left, any_right}
use Rattle.world_laws.proofs.Induction.Runs.{IsKept}
use Rattle.world_laws.proofs.Snapshotting.SecondRound.{knows_now}
use Rattle.world_laws.proofs.Walks.ServeWalk.{frame_served}
use Rattle.world_laws.proofs.Walks.Shapes.{Seeks as SeekPlan, Served}
use Rattle.world_laws.proofs.Telling.Told.{Includes, IsToldKept, ToldOver, nothing_told, told_too}
use Rattle.world_laws.proofs.Telling.ToldLaws.{only_settled, told_kept}
use Rattle.world_laws.proofs.Telling.ToldRuns.{none_settled, resets_none, rounds_none, step_done}
use Rattle.world_laws.proofs.Walks.Walk.{on_elim, on_if, on_test}
use Rattle.trace_laws.specs.Seen.{seen, world_seen}
use Rattle.trace_laws.proofs.Events.{Whole}
use Rattle.trace_laws.proofs.SettledEvents.{Among, Lines}
use Rattle.trace_laws.proofs.Traced.{Fine, few_short, opening_seen, step_fine, step_told, told_is, tracing_kept, whole}
use Rattle.trace_laws.proofs.SettledPlans.{EventLines, Out, Silent, event_in, halt_in, lines_append, named_some, seek_out, seek_stray, serve_out, serve_stray, settling_quiet, silent_both}

-- ---- a plan that is idle writes nothing

served_busy : (h : Site) (b : Broker) (c : ℕ) (p : Packet) (q : Plan) → Served h b c p q → q.idle ≡ false
served_busy h b c p q (Served.Acknowledges v id kind ps u i is ws at is_ack by of after) = refl
served_busy h b c p q (Served.Stores v id seq source e at sound accepted) = refl
served_busy h b c p q (Served.Creates v topic m kind id request consumer earliest replicated at is may named) = refl
served_busy h b c p q (Served.Alters v topic m kind id request consumer earliest replicated u at is may named free other) = refl
served_busy h b c p q (Served.Unsubscribes v id request u at is by last) = refl
served_busy h b c p q Served.Ignores = refl
served_busy h b c p q Served.Disconnects = refl
served_busy h b c p q (Served.Connects v is made) = refl
served_busy h b c p q (Served.Answers v f at) = refl
served_busy h b c p q (Served.ChangesProducers v ps f at) = refl
served_busy h b c p q (Served.Repeats v id seq source e at sound old) = refl
served_busy h b c p q (Served.Joins v topic m kind id request consumer earliest replicated u at is may named free same) = refl
served_busy h b c p q (Served.Permits v id permits u at is by) = refl
served_busy h b c p q (Served.ClosesConsumer v id request u at is by) = refl

idle_serve : (h : Site) (b : Broker) (c : ℕ) (o : Option Packet) → (serve h b c o).idle ≡ true → (serve h b c o).writes ≡ []
unfolding serve
idle_serve h b c None idle = refl
idle_serve h b c (Some p) idle = absurd (false≢true (sym (served_busy h b c p _ (frame_served h b c p p.frame refl)) ∙ idle))

sought_idle : (h : Site) (b : Broker) (n : List ℕ) (to : Option Position) (q : Plan) → SeekPlan h b n to q → q.idle ≡ true → q.writes ≡ []
sought_idle h b n to q SeekPlan.NothingToSeek idle = refl
sought_idle h b n to q (SeekPlan.SeeksTo v i ws found at after) idle = absurd (false≢true idle)

take_none : (k : ℕ) (ws : List Write) → ws ≡ [] → take k ws ≡ []
take_none zero ws none = refl
take_none (suc k) ws none = ap (take (suc k)) none

-- so its lines settle nothing
idle_lines : (s : Setup) (w : World) (m : ℕ) (e : Event) (p : Planned) (u : ℕ) (n : List ℕ) → (p.plan.idle ≡ true → p.plan.writes ≡ []) → ((broker_does s w p).events == w.events) ≡ true
    → EventLines s w m (length p.plan.writes) e (Some p) u n ≡ []
idle_lines s w m e p u n empty same =
    let b = topic_at s w p.topic p.cluster in
    ap (λ (ws : List Write). Lines s (record { topics = map seen w.brokers; events = m }) p.topic p.cluster (cause_of b e) b ws u n)
    (take_none (length p.plan.writes) p.plan.writes (empty (plan_idles s w p same)))

-- ---- one event

-- its lines, where there are some
event_from : (s : Setup) (w : World) (before : SettledSoFar) (k : ℕ) (e : Event) (o : Option Planned) (idle : Bool) (u : ℕ) (n : List ℕ) (f : Entry)
    → (idle ≡ true → EventLines s w (w.events + 1) k e o u n ≡ []) → Out before (EventLines s w (w.events + 1) k e o) u n f
    → IsSettled (told_too before (λ v l. settled_from s (world_seen w) (if idle then [] else Begins (w.events + 1) ∷ planned_items s w k e o) v l)) u n f
event_from s w before k e o true u n f none (inl old) = any_left (same_ident f.ident) (before u n) [] old
event_from s w before k e o true u n f none (inr now) = absurd (false≢true (subst (Among f) (none refl) now))
event_from s w before k e o false u n f none (inl old) = any_left (same_ident f.ident) (before u n) (EventLines s w (w.events + 1) k e o u n) old
event_from s w before k e o false u n f none (inr now) = any_right (same_ident f.ident) (before u n) (EventLines s w (w.events + 1) k e o u n) now

serve_all : (s : Setup) (w : World) (before : SettledSoFar) (m x c : ℕ) → Whole s w → OnlySettled s w before → Tables s w → (u : ℕ) (n : List ℕ) (f : Entry)
    → Among f (settled_event s w u n (event.Serve x c)) → let o = planned s w (event.Serve x c) in Out before (EventLines s w m (all_writes o) (event.Serve x c) o) u n f
unfolding planned
serve_all s w before m x c a only tables u n f h =
    let e = event.Serve x c in let t = (declared_at s c).topic in
    let ws = (serve (site s t x) (topic_at s w t x) c (next_packet (link_at w.links (ToBroker c x)))).writes in
    on_test (λ (o : Option Planned). Out before (EventLines s w m (all_writes o) e o) u n f) (in_range s e) (planned_in s w e) None
    (λ within. serve_out s w before m (length ws) x c within a only (λ p i named. named_some p i ws named) u n f h)
    (λ out. absurd (false≢true (subst (Among f) (serve_stray s w x c u n tables out) h)))

seek_all : (s : Setup) (w : World) (before : SettledSoFar) (m t x l : ℕ) (to : Option Position) → OnlySettled s w before → (u : ℕ) (n : List ℕ) (f : Entry)
    → Among f (settled_event s w u n (event.Seek t x l to)) → let o = planned s w (event.Seek t x l to) in Out before (EventLines s w m (all_writes o) (event.Seek t x l to) o) u n f
unfolding planned
seek_all s w before m t x l to only u n f h =
    let e = event.Seek t x l to in let ws = (seek (site s t x) (topic_at s w t x) (sub_name s t l) to).writes in
    on_test (λ (o : Option Planned). Out before (EventLines s w m (all_writes o) e o) u n f) (in_range s e) (planned_in s w e) None
    (λ within. seek_out s w before m (length ws) t x l to within only (λ p i named. named_some p i ws named) u n f h)
    (λ out. absurd (false≢true (subst (Among f) (seek_stray s w t x l to u n out) h)))

serve_idle : (s : Setup) (w : World) (m x c u : ℕ) (n : List ℕ) → ((happens s w (event.Serve x c)).events == w.events) ≡ true
    → let o = planned s w (event.Serve x c) in EventLines s w m (all_writes o) (event.Serve x c) o u n ≡ []
unfolding planned happens
serve_idle s w m x c u n =
    let e = event.Serve x c in
    on_if (λ (o : Option Planned). ((does_planned s w o).events == w.events) ≡ true → EventLines s w m (all_writes o) e o u n ≡ []) (in_range s e) (planned_in s w e) None
    (idle_lines s w m e (plan_taking s w (declared_at s c).topic x (ToBroker c x) e) u n (idle_serve (site s (declared_at s c).topic x) (topic_at s w (declared_at s c).topic x) c (next_packet (link_at w.links (ToBroker c x)))))
    (λ same. refl)

seek_idle : (s : Setup) (w : World) (m t x l : ℕ) (to : Option Position) (u : ℕ) (n : List ℕ) → ((happens s w (event.Seek t x l to)).events == w.events) ≡ true
    → let o = planned s w (event.Seek t x l to) in EventLines s w m (all_writes o) (event.Seek t x l to) o u n ≡ []
unfolding planned happens
seek_idle s w m t x l to u n =
    let e = event.Seek t x l to in
    on_if (λ (o : Option Planned). ((does_planned s w o).events == w.events) ≡ true → EventLines s w m (all_writes o) e o u n ≡ []) (in_range s e) (planned_in s w e) None
    (idle_lines s w m e (plan_at s w t x e) u n (sought_idle (site s t x) (topic_at s w t x) (sub_name s t l) to _ (seek_shape (site s t x) (topic_at s w t x) (sub_name s t l) to)))
    (λ same. refl)

pub event_out : (s : Setup) (w : World) (before : SettledSoFar) (e : Event) → Whole s w → OnlySettled s w before → Tables s w
    → Includes (λ u n. settled_event s w u n e) (told_too before (λ u n. settled_from s (world_seen w) (event_items s w e) u n))
unfolding event_items
event_out s w before (event.Serve x c) a only tables u n f h =
    let e = event.Serve x c in let o = planned s w e in
    event_from s w before (all_writes o) e o ((happens s w e).events == w.events) u n f (serve_idle s w (w.events + 1) x c u n) (serve_all s w before (w.events + 1) x c a only tables u n f h)
event_out s w before (event.Seek t x l to) a only tables u n f h =
    let e = event.Seek t x l to in let o = planned s w e in
    event_from s w before (all_writes o) e o ((happens s w e).events == w.events) u n f (seek_idle s w (w.events + 1) t x l to u n) (seek_all s w before (w.events + 1) t x l to only u n f h)
event_out s w before e a only tables u n f h = absurd (false≢true (subst (Among f) (none_settled s w u n e refl) h))

-- ---- a stop in the midst of one

serve_some : (s : Setup) (w : World) (before : SettledSoFar) (m k x c : ℕ) → 0 < k → Whole s w → OnlySettled s w before → Tables s w → (u : ℕ) (n : List ℕ) (f : Entry)
    → Among f (settled_event s w u n (event.Serve x c)) → Out before (EventLines s w m k (event.Serve x c) (planned s w (event.Serve x c))) u n f
unfolding planned
serve_some s w before m k x c lt a only tables u n f h =
    let e = event.Serve x c in
    on_test (λ (o : Option Planned). Out before (EventLines s w m k e o) u n f) (in_range s e) (planned_in s w e) None
    (λ within. serve_out s w before m k x c within a only (λ p i named. lt) u n f h)
    (λ out. absurd (false≢true (subst (Among f) (serve_stray s w x c u n tables out) h)))

seek_some : (s : Setup) (w : World) (before : SettledSoFar) (m k t x l : ℕ) (to : Option Position) → 0 < k → OnlySettled s w before → (u : ℕ) (n : List ℕ) (f : Entry)
    → Among f (settled_event s w u n (event.Seek t x l to)) → Out before (EventLines s w m k (event.Seek t x l to) (planned s w (event.Seek t x l to))) u n f
unfolding planned
seek_some s w before m k t x l to lt only u n f h =
    let e = event.Seek t x l to in
    on_test (λ (o : Option Planned). Out before (EventLines s w m k e o) u n f) (in_range s e) (planned_in s w e) None
    (λ within. seek_out s w before m k t x l to within only (λ p i named. lt) u n f h)
    (λ out. absurd (false≢true (subst (Among f) (seek_stray s w t x l to u n out) h)))

halt_counts : (s : Setup) (w : World) (m k : ℕ) (e : Event) (o : Option Planned) (u : ℕ) (n : List ℕ) → ((halts_planned s w k o).events == w.events) ≡ true → EventLines s w m k e o u n ≡ []
unfolding broker_halts
halt_counts s w m k e None u n same = refl
halt_counts s w m k e (Some p) u n same =
    let more : ((w.events + 1) == w.events) ≡ false = grind (arith, nat_tests) in absurd (false≢true (sym more ∙ same))

halt_some : (s : Setup) (w : World) (before : SettledSoFar) (k : ℕ) (e : Event) → 0 < k → Whole s w → OnlySettled s w before → Tables s w → (u : ℕ) (n : List ℕ) (f : Entry)
    → Among f (settled_event s w u n e) → Out before (EventLines s w (w.events + 1) k e (planned s w e)) u n f
halt_some s w before k (event.Serve x c) lt a only tables u n f h = serve_some s w before (w.events + 1) k x c lt a only tables u n f h
halt_some s w before k (event.Seek t x l to) lt a only tables u n f h = seek_some s w before (w.events + 1) k t x l to lt only u n f h
halt_some s w before k e lt a only tables u n f h = absurd (false≢true (subst (Among f) (none_settled s w u n e refl) h))

pub halt_out : (s : Setup) (w : World) (before : SettledSoFar) (k : ℕ) (e : Event) → Whole s w → OnlySettled s w before → Tables s w
    → Includes (λ u n. settled_behind k s w u n e) (told_too before (λ u n. settled_from s (world_seen w) (halt_items s w k e) u n))
unfolding halt_items
halt_out s w before k e a only tables u n f h = by (nat_lt 0 k) refl h
  where
    by : (b : Bool) → nat_lt 0 k ≡ b → Among f (if b then settled_event s w u n e else [])
        → IsSettled (told_too before (λ v l. settled_from s (world_seen w) (if (halts_planned s w k (planned s w e)).events == w.events then [] else Begins (w.events + 1) ∷ planned_items s w k e (planned s w e)) v l)) u n f
    by false is g = absurd (false≢true g)
    by true is g =
        event_from s w before k e (planned s w e) ((halts_planned s w k (planned s w e)).events == w.events) u n f (halt_counts s w (w.events + 1) k e (planned s w e) u n)
        (halt_some s w before k e (ltb-true 0 k is) a only tables u n f g)

-- ---- steps

-- a step that is not done tells and settles nothing
unless_in : (s : Setup) (a : Mirrors) (r : Ran) (is : List Item) (more : SettledSoFar) → Includes (λ t n. settled_from s a is t n) more
    → Includes (λ t n. settled_from s a (unless_ended r is) t n) (λ t n. if is_some r.ended then [] else more t n)
unless_in s a r is more h = by (is_some r.ended)
  where
    by : (b : Bool) → Includes (λ t n. settled_from s a (if b then [] else is) t n) (λ t n. if b then [] else more t n)
    by true = λ t n e k. absurd (false≢true k)
    by false = h

unless_out : (s : Setup) (a : Mirrors) (r : Ran) (is : List Item) (before more : SettledSoFar) → Includes more (told_too before (λ t n. settled_from s a is t n))
    → Includes (λ t n. if is_some r.ended then [] else more t n) (told_too before (λ t n. settled_from s a (unless_ended r is) t n))
unless_out s a r is before more h = by (is_some r.ended)
  where
    by : (b : Bool) → Includes (λ t n. if b then [] else more t n) (told_too before (λ t n. settled_from s a (if b then [] else is) t n))
    by true = λ t n e k. absurd (false≢true k)
    by false = h

rounds_quiet : (m : ℕ) (s : Setup) (r : Ran) → Silent s (rounds_items m all_limits s r)
rounds_quiet zero s r = λ a t n. refl
rounds_quiet (suc m) s r =
    let r' : Ran = all_settle all_limits s r (round_of (pairs s)) in
    silent_both s (settling_items all_limits s r (round_of (pairs s))) _ (settling_quiet s r (round_of (pairs s)) (rounds_none (pairs s)))
    (on_elim (Silent s) (is_some r'.ended || (r'.world.events == r.world.events)) [] (rounds_items m all_limits s (counting_round r')) (λ a t n. refl) (rounds_quiet m s (counting_round r')))

settle_quiet : (s : Setup) (r : Ran) → Silent s (step_items all_limits s r step.Settle)
unfolding step_items
settle_quiet s r =
    silent_both s (settling_items all_limits s r (resets_of (pairs s))) (rounds_items (budget s r.world + 1) all_limits s (all_settle all_limits s r (resets_of (pairs s))))
    (settling_quiet s r (resets_of (pairs s)) (resets_none (pairs s))) (rounds_quiet (budget s r.world + 1) s (all_settle all_limits s r (resets_of (pairs s))))

-- what a step settles, where it is done
abbrev StepSettles : Setup → Ran → Step → SettledSoFar
StepSettles s r e t n = if is_some (steps all_limits s r e).ended then [] else settled_step s r.world t n e

abbrev StepLines : Setup → Ran → Step → SettledSoFar
StepLines s r e t n = settled_from s (world_seen r.world) (step_items all_limits s r e) t n

none_unless : (b : Bool) (e : Entry) → Among e (if b then [] else []) → ⊥
none_unless true e h = false≢true h
none_unless false e h = false≢true h

step_in : (s : Setup) (r : Ran) (e : Step) → Whole s r.world → Includes (StepLines s r e) (StepSettles s r e)
unfolding step_items
step_in s r (step.Plain e) a =
    unless_in s (world_seen r.world) (steps all_limits s r (step.Plain e)) (event_items s r.world e) (λ t n. settled_event s r.world t n e) (event_in s r.world e a)
step_in s r (step.Halt k e) a =
    unless_in s (world_seen r.world) (steps all_limits s r (step.Halt k e)) (halt_items s r.world k e) (λ t n. settled_behind k s r.world t n e) (halt_in s r.world k e a)
step_in s r step.Settle a = λ t n f h. absurd (false≢true (subst (Among f) (settle_quiet s r (world_seen r.world) t n) h))
step_in s r step.Stop a =
    unless_in s (world_seen r.world) (steps all_limits s r step.Stop) (Begins (r.world.events + 1) ∷ []) (λ t n. []) (λ t n f h. absurd (false≢true h))

step_out : (s : Setup) (r : Ran) (before : SettledSoFar) (e : Step) → Whole s r.world → OnlySettled s r.world before → Tables s r.world
    → Includes (StepSettles s r e) (told_too before (StepLines s r e))
unfolding step_items
step_out s r before (step.Plain e) a only tables =
    unless_out s (world_seen r.world) (steps all_limits s r (step.Plain e)) (event_items s r.world e) before (λ t n. settled_event s r.world t n e) (event_out s r.world before e a only tables)
step_out s r before (step.Halt k e) a only tables =
    unless_out s (world_seen r.world) (steps all_limits s r (step.Halt k e)) (halt_items s r.world k e) before (λ t n. settled_behind k s r.world t n e)
    (halt_out s r.world before k e a only tables)
step_out s r before step.Settle a only tables = λ t n f h. absurd (none_unless (is_some (steps all_limits s r step.Settle).ended) f h)
step_out s r before step.Stop a only tables = λ t n f h. absurd (none_unless (is_some (steps all_limits s r step.Stop).ended) f h)

-- ---- runs

abbrev RunLines : Setup → Ran → List Step → SettledSoFar
RunLines s r es t n = settled_from s (world_seen r.world) (items_from all_limits s r es) t n

-- the lines of a first step, and those of the rest
run_lines : (s : Setup) (r : Ran) (e : Step) (es : List Step) → IsScripted s → Fine s r → (t : ℕ) (n : List ℕ)
    → RunLines s r (e ∷ es) t n ≡ StepLines s r e t n ++ RunLines s (steps all_limits s r e) es t n
run_lines s r e es scripted fine t n =
    lines_append s (world_seen r.world) (step_items all_limits s r e) (items_from all_limits s (steps all_limits s r e) es) t n
    ∙ ap (λ (a : Mirrors). StepLines s r e t n ++ settled_from s a (items_from all_limits s (steps all_limits s r e) es) t n)
    (told_is s (world_seen r.world) (world_seen (steps all_limits s r e).world) (step_items all_limits s r e) (step_told s r e scripted fine))

any_either : (p : Ident → Bool) (xs ys : List Ident) → list_any p (xs ++ ys) ≡ true → (list_any p xs ≡ true) ⊎ (list_any p ys ≡ true)
any_either p [] ys h = inr h
any_either p (x ∷ xs) ys h =
    elim (either (p x) (list_any p (xs ++ ys)) h) [
      | inl e ↦ inl (or_left (p x) (list_any p xs) e)
      | inr l ↦ elim (any_either p xs ys l) [ inl a ↦ inl (or_right (p x) (list_any p xs) a) | inr b ↦ inr b ]
    ]

run_in : (s : Setup) (r : Ran) (es : List Step) → IsScripted s → Fine s r → Includes (RunLines s r es) (λ t n. settled_in_steps all_limits s r es t n)
run_in s r [] scripted fine t n f h = absurd (false≢true h)
run_in s r (e ∷ es) scripted fine t n f h =
    let r' : Ran = steps all_limits s r e in
    elim (any_either (same_ident f.ident) (StepLines s r e t n) (RunLines s r' es t n) (subst (Among f) (run_lines s r e es scripted fine t n) h)) [
      | inl now ↦
          any_left (same_ident f.ident) (StepSettles s r e t n) (settled_in_steps all_limits s r' es t n)
          (step_in s r e (whole s r.world scripted fine.kept fine.short) t n f now)
      | inr later ↦
          any_right (same_ident f.ident) (StepSettles s r e t n) (settled_in_steps all_limits s r' es t n)
          (run_in s r' es scripted (step_fine s r e scripted fine) t n f later)
    ]

-- what the other way carries: what is settled so far is all that is acknowledged
abbrev Carries : Setup → SettledSoFar → World → Type 0
Carries s before w = ToldOver s before w × Tables s w

carried : (s : Setup) (P : SettledSoFar → World → Type 0) (Q : World → Type 0) → IsToldKept s P → IsKept s Q → IsToldKept s (λ before w. P before w × Q w)
carried s P Q k q = record {
  opening = (k.opening, q.opening);
  more = λ before more w all h. (k.more before more w all h.0, h.1);
  tells = λ before w e h. k.tells before w e h.0;
  idle = λ before w n h. (k.idle before w n h.0, q.idle w n h.1);
  round = λ before w n h. (k.round before w n h.0, q.round w n h.1);
  does = λ before w p shape tells h. (k.does before w p shape tells h.0, q.does w p shape h.1);
  halts = λ before w m p shape tells h. (k.halts before w m p shape tells h.0, q.halts w m p shape h.1);
  goes = λ before w c a h. (k.goes before w c a h.0, q.goes w c a h.1);
  gets = λ before w c x a h. (k.gets before w c x a h.0, q.gets w c x a h.1);
  stop = λ before w h. (k.stop before w h.0, q.stop w h.1);
}

carries_kept : (s : Setup) → IsScripted s → IsToldKept s (Carries s)
carries_kept s scripted = carried s (ToldOver s) (Tables s) (told_kept s (named s scripted)) (form_kept s)

run_out : (s : Setup) (r : Ran) (es : List Step) (before lines : SettledSoFar) → IsScripted s → Fine s r → Carries s before r.world → Includes before lines
    → Includes (told_too before (λ t n. settled_in_steps all_limits s r es t n)) (told_too lines (RunLines s r es))
run_out s r [] before lines scripted fine carries all t n f h =
    elim (any_either (same_ident f.ident) (before t n) [] h) [
      | inl old ↦ any_left (same_ident f.ident) (lines t n) [] (all t n f old)
      | inr none ↦ absurd (false≢true none)
    ]
run_out s r (e ∷ es) before lines scripted fine carries all t n f h =
    let r' : Ran = steps all_limits s r e in
    let now : SettledSoFar = StepSettles s r e in let told_now : SettledSoFar = StepLines s r e in
    let rest = settled_in_steps all_limits s r' es t n in let told_rest = RunLines s r' es t n in
    let only = only_settled s r.world before (knows_now s r.world fine.kept.0.0.0 fine.short) (carries.0.1 fine.short) in
    let step = step_out s r before e (whole s r.world scripted fine.kept fine.short) only carries.1 in
    let all' : Includes (told_too before now) (told_too lines told_now) = λ u m g k.
    elim (any_either (same_ident g.ident) (before u m) (now u m) k) [
      | inl old ↦ any_left (same_ident g.ident) (lines u m) (told_now u m) (all u m g old)
      | inr new ↦
          elim (any_either (same_ident g.ident) (before u m) (told_now u m) (step u m g new)) [
            | inl old ↦ any_left (same_ident g.ident) (lines u m) (told_now u m) (all u m g old)
            | inr line ↦ any_right (same_ident g.ident) (lines u m) (told_now u m) line
          ]
    ] in
    subst (Among f) (append_assoc (lines t n) (told_now t n) told_rest ∙ ap (λ (l : List Ident). lines t n ++ l) (sym (run_lines s r e es scripted fine t n)))
    (run_out s r' es (told_too before now) (told_too lines told_now) scripted (step_fine s r e scripted fine)
    (step_done all_limits s (Carries s) (carries_kept s scripted) before r e carries) all' t n f
    (subst (Among f) (sym (append_assoc (before t n) (now t n) rest)) h))

abbrev opening_ran : Setup → Ran
opening_ran s = record { world = opening_world s; ended = None }

opening_fine : (s : Setup) → IsScripted s → Fine s (opening_ran s)
opening_fine s scripted = record { kept = (tracing_kept s (named s scripted)).opening; short = few_short (opening_world s) (omega arith) }

-- the lines of a trace settle what its run settles
abbrev TraceLines : Setup → List Step → SettledSoFar
TraceLines s es t n = settled_from s (opening_mirrors s) (traced all_limits s es) t n

as_opened : (s : Setup) (es : List Step) (t : ℕ) (n : List ℕ) → RunLines s (opening_ran s) es t n ≡ TraceLines s es t n
as_opened s es t n = ap (λ (a : Mirrors). settled_from s a (traced all_limits s es) t n) (opening_seen s)

pub trace_told : (s : Setup) → IsScripted s → (es : List Step) → Includes (TraceLines s es) (λ t n. settled_under all_limits s es t n)
unfolding settled_under
trace_told s scripted es t n f h = run_in s (opening_ran s) es scripted (opening_fine s scripted) t n f (subst (Among f) (sym (as_opened s es t n)) h)

pub trace_all : (s : Setup) → IsScripted s → (es : List Step) → Includes (λ t n. settled_under all_limits s es t n) (TraceLines s es)
unfolding settled_under
trace_all s scripted es t n f h =
    subst (Among f) (as_opened s es t n)
    (run_out s (opening_ran s) es nothing_told nothing_told scripted (opening_fine s scripted) (carries_kept s scripted).opening (λ u m g k. k) t n f h)
