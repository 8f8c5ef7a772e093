-- The trace of every run of a script within the limits is accepted, and an audit sees after it what the run leaves.
use Rattle.std.proofs.Common.{◌≡◌, ℕ, zero, suc, ◌+◌, ◌*◌, ◌<◌, ◌≤◌, Bool, true, false, List, [], ◌∷◌, ◌++◌, length, map, refl, sym, ap, subst, ◌∙◌, ◌==◌, arith, not}
use Rattle.std.specs.Prelude.{◌||◌, Option, Some, None, if◌then◌else◌, is_some, nat_lt, replicate, slice_index_or, slice_set, take, Result, Ok, Err}
use Rattle.std.specs.List.{list_all}
use Rattle.std.specs.Str.{bytes_eq}
use Rattle.std.proofs.lemmas.Bool.{false≢true, ltb-true}
use Rattle.std.proofs.lemmas.Bool.Decides.{nat_tests}
use Rattle.std.proofs.lemmas.List.{append-nil}
use Rattle.std.proofs.lemmas.Option.{none-some}
use Rattle.world_laws.proofs.Types.{Change, Event, Step, Write}
use Rattle.world_laws.proofs.Types.change
use Rattle.world_laws.proofs.Types.event
use Rattle.world_laws.proofs.Types.step
use Rattle.world_laws.proofs.Types.write
use Rattle.geo_base.specs.Broker.{Broker, changed, new_broker, sub_named, written}
use Rattle.geo_base.specs.Cache.{cached}
use Rattle.geo_base.specs.Client.{Acted}
use Rattle.geo_base.specs.Cursor.{below}
use Rattle.geo_base.specs.Dispatcher.{given, skipped_index}
use Rattle.geo_base.specs.Happening.{broker_does, broker_halts, client_does, does_planned, happens, halts_planned, stops}
use Rattle.geo_base.specs.Laws.{IsShort}
use Rattle.geo_base.specs.Moments.{partly_written}
use Rattle.geo_base.specs.Plan.{all_written, done, halted}
use Rattle.geo_base.specs.Planned.{Planned, has_client, in_range, planned}
use Rattle.geo_base.specs.Run.{Ran, all_limits, most_sent_bytes, all_settle, budget, counting_round, ends_or, goes_on, most_events, or_else, pairs, resets_of, round_of, rounds_of, run_from, run_under, settled_world, settles, steps}
use Rattle.geo_base.specs.Scripted.{IsScripted, is_declared}
use Rattle.geo_base.specs.Seeking.{restart}
use Rattle.geo_base.specs.Setup.{Declared, Setup, declared_at, nobody}
use Rattle.geo_base.specs.Subscription.{Subscription, after_acks, attached, cleared, detached, new_subscription, permitted, sought, with_acks}
use Rattle.geo_base.specs.World.{LinkName, World, node, opening_world, site, topic_at}
use Rattle.world_laws.proofs.Snapshotting.Asked.{Named, named}
use Rattle.world_laws.proofs.Replicating.Effects.{Each, each_both}
use Rattle.world_laws.proofs.Walks.EventWalk.{HasShape, planned_shape}
use Rattle.world_laws.proofs.OnceInOrder.Fresh.{shape_fresh}
use Rattle.world_laws.proofs.Induction.Layers.{Both, Everywhere, Grounds, IsDurable, both_kept, durable_kept, kept_over}
use Rattle.world_laws.proofs.Merges.PeerWalk.{each_filter}
use Rattle.world_laws.proofs.Induction.Runs.{IsKept, event_done, plan_halted}
use Rattle.world_laws.proofs.Snapshotting.SecondRound.{Knows, knows_now, knows_written}
use Rattle.world_laws.proofs.Dispatching.SubFrames.{NamesApart, all_written_apart, at_name, changed_apart, each_to}
use Rattle.world_laws.proofs.Walks.Walk.{left, on_elim, on_if, right}
use Rattle.geo_base.specs.declared.planned.Cause.{Cause}
use Rattle.geo_base.specs.TraceItems.{Begins, Item}
use Rattle.geo_base.specs.Traced.{acts_of, all_writes, cause_of, event_items, halt_items, items_from, planned_items, rounds_items, settling_items, step_items, told_at, traced, unless_ended}
use Rattle.geo_base.specs.Mirror.{Mirrors, no_mirror, opening_mirrors, told}
use Rattle.geo_base.specs.Audit.{Refusal, audited, judged}
use Rattle.audit.specs.Strict.{audited_by, audited_from_by, refused_by}
use Rattle.audit.specs.declared.strictness.Strictness.TheVariants as strictness
use Rattle.trace_laws.specs.Audited.{all_told}
use Rattle.trace_laws.specs.Gapless.{LawTracedWhole}
use Rattle.trace_laws.specs.Seen.{seen, world_seen}
use Rattle.trace_laws.proofs.Events.{FreshIn, begins, PlannedHolds, Whole, changes_seen, planned_holds, told_planned, whole_take}
use Rattle.cursor_acks.proofs.Sets.{Rising, rising_range, rising_with_indexes}
use Rattle.trace_laws.proofs.Shaped.{written_last}
use Rattle.trace_laws.proofs.Strictly.{plainly}
use Rattle.trace_laws.proofs.Stems.{Stemming, stemming_kept}
use Rattle.trace_laws.proofs.Writes.{PlanHolds, opened_seen}

-- ---- names are apart and cursors ascend (the second is a fact of `kept_laws`, too)

abbrev Ascends : Subscription → Type 0
Ascends v = Rising 0 v.cursor

abbrev Tidy : ℕ → Broker → Type 0
Tidy x b = NamesApart b.subs × Each Ascends b.subs

rising_below : (n : ℕ) → Rising 0 (below n)
rising_below n = subst (Rising 0) (append-nil (below n)) (rising_range 0 0 n [] (omega arith) tt)

named_ascends : (n : List ℕ) (f : Subscription → Subscription) → ((v : Subscription) → Ascends v → Ascends (f v)) → (vs : List Subscription) → Each Ascends vs → Each Ascends (map (at_name n f) vs)
named_ascends n f k vs h = each_to Ascends Ascends (at_name n f) (λ v p. on_if Ascends (bytes_eq v.name n) (f v) v (k v p) p) vs h

one_written : (per : ℕ) (b : Broker) (w : Write) → Each Ascends b.subs → Each Ascends (written per b w).subs
one_written per b (write.Create n kind replicated latest) h =
    on_if (λ (c : Broker). Each Ascends c.subs) (is_some (sub_named b.subs n)) b _ h
    (each_both Ascends b.subs (new_subscription n kind replicated (if latest then below (length b.entries) else []) ∷ []) h
    (on_if (Rising 0) latest (below (length b.entries)) [] (rising_below (length b.entries)) tt, tt))
one_written per b (write.Alter n kind replicated) h = named_ascends n (λ s. record s { kind = kind; replicated = replicated }) (λ v k. k) b.subs h
one_written per b (write.Delete n) h = each_filter Ascends (λ (s : Subscription). not (bytes_eq s.name n)) b.subs h
one_written per b (write.Acks n is) h = named_ascends n (with_acks is) (λ v k. rising_with_indexes v.cursor is k) b.subs h
one_written per b (write.Seek n i) h = named_ascends n (sought i) (λ v k. rising_below i) b.subs h
one_written per b (write.Append e) h = h
one_written per b (write.ReplicatorAck y i) h = h
one_written per b (write.SessionNumber y i) h = h
one_written per b write.Ledger h = h

all_ascend : (per : ℕ) (b : Broker) (ws : List Write) → Each Ascends b.subs → Each Ascends (all_written per b ws).subs
all_ascend per b [] h = h
all_ascend per b (w ∷ ws) h = all_ascend per (written per b w) ws (one_written per b w h)

one_changed : (b : Broker) (c : Change) → Each Ascends b.subs → Each Ascends (changed b c).subs
one_changed b (change.Attach n k) h = named_ascends n (attached k) (λ v p. p) b.subs h
one_changed b (change.Detach k) h = each_to Ascends Ascends (detached k) (λ v p. p) b.subs h
one_changed b (change.Permit n k permits) h = named_ascends n (permitted k permits) (λ v p. p) b.subs h
one_changed b (change.Skipped n i) h = named_ascends n (skipped_index i) (λ v p. p) b.subs h
one_changed b (change.Given n i at) h = named_ascends n (given i at) (λ v p. p) b.subs h
one_changed b (change.Cache n k) h = named_ascends n (λ s. record s { cache = cached s.cache k }) (λ v p. p) b.subs h
one_changed b (change.Acked n) h = named_ascends n after_acks (λ v p. p) b.subs h
one_changed b (change.Cleared n) h = named_ascends n cleared (λ v p. p) b.subs h
one_changed b change.Forget h = each_to Ascends Ascends cleared (λ v p. p) b.subs h
one_changed b (change.Receiver x r) h = h
one_changed b (change.Client k r) h = h
one_changed b (change.Opening y) h = h
one_changed b (change.Opened y) h = h
one_changed b (change.Pend y i) h = h
one_changed b (change.ReadTo y i) h = h
one_changed b (change.Unpend y i) h = h
one_changed b (change.Building o) h = h

tidy_durable : (s : Setup) → IsDurable s Tidy
tidy_durable s = record {
  opening = λ x lt. (tt, tt);
  writes = λ t x b ws lt adds h. (all_written_apart s.per_ledger b ws h.0, all_ascend s.per_ledger b ws h.1);
  changes = λ x b c h. (changed_apart b c h.0, one_changed b c h.1);
}

-- ---- what every event keeps

abbrev pub Tracing : Setup → World → Type 0
Tracing s = Both (Stemming s) (Everywhere s Tidy)

pub tracing_kept : (s : Setup) → Named s → IsKept s (Tracing s)
tracing_kept s names =
    both_kept s (Stemming s) (Everywhere s Tidy) (stemming_kept s names)
    (kept_over s (Stemming s) (Grounds s) (Everywhere s Tidy) (λ w h. h.0.0.0.0.0.0) (durable_kept s Tidy (tidy_durable s)))

-- a client's topic is one of the setup
topic_in : (s : Setup) → IsScripted s → (c : ℕ) → has_client s c ≡ true → (declared_at s c).topic < length s.topics
topic_in s scripted c here = by s.clients c scripted.clients.0 (ltb-true c (length s.clients) here)
  where
    by : (ds : List Declared) (k : ℕ) → list_all (is_declared s) ds ≡ true → k < length ds → (slice_index_or ds k nobody).topic < length s.topics
    by [] k all lt = absurd (omega (arith, lt))
    by (d ∷ ds) zero all lt = fits d (left (is_declared s d) (list_all (is_declared s) ds) all)
      where
        fits : (d : Declared) → is_declared s d ≡ true → d.topic < length s.topics
        fits d h = grind (arith, nat_tests, h)
    by (d ∷ ds) (suc k) all lt = by ds k (right (is_declared s d) (list_all (is_declared s) ds) all) (omega (arith, lt))

pub whole : (s : Setup) (w : World) → IsScripted s → Tracing s w → IsShort w → Whole s w
whole s w scripted h short =
    let knowing = h.0.0.0 in let knows = knows_now s w knowing short in
    record {
      here = λ t x there. record {
        there = there;
        knows = knows;
        asked = knowing.1 short;
        stems = h.0.1 short;
        cuts = h.0.0.1 short;
        apart = (h.1 t x there).0;
        ascends = (h.1 t x there).1;
      };
      sized = knows.size;
      none = knowing.0.0.0.0.1;
      declared = topic_in s scripted;
    }

fresh_planned : (s : Setup) (w : World) (o : Option Planned) → HasShape s w o → FreshIn s w o
fresh_planned s w None shape = tt
fresh_planned s w (Some p) shape = shape_fresh s w p shape

knows_after : (s : Setup) (w : World) (k : ℕ) (o : Option Planned) → HasShape s w o → Tracing s w → IsShort w → Knows s (partly_written s w k o)
knows_after s w k None shape h short = knows_now s w h.0.0.0 short
knows_after s w k (Some p) shape h short = knows_written s w k p shape h.0.0.0 short

plan_told : (s : Setup) (w : World) (n : ℕ) (e : Event) → IsScripted s → Tracing s w → IsShort w → PlannedHolds s w n e (planned s w e)
plan_told s w n e scripted h short =
    planned_holds s w n e (whole s w scripted h short) (fresh_planned s w (planned s w e) (planned_shape s w e)) (λ k. knows_after s w k (planned s w e) (planned_shape s w e) h short)

-- ---- one event

abbrev pub Told : Setup → World → List Item → World → Type 0
Told s w items w' = audited_from_by strictness.Whole s (world_seen w) items ≡ Ok (world_seen w')

abbrev seen_all : List Broker → ℕ → Mirrors
seen_all bs n = record { topics = map seen bs; events = n }

-- what an event makes of a world
data Outcome (s : Setup) (w : World) (o : Option Planned) (w' : World) : Type 0 where
  Idle : w'.events ≡ w.events → w'.brokers ≡ w.brokers → Outcome s w o w'
  OfClient : o ≡ None → w'.events ≡ w.events + 1 → w'.brokers ≡ w.brokers → Outcome s w o w'
  OfBroker : (p : Planned) (b' : Broker) → o ≡ Some p → w'.events ≡ w.events + 1 → w'.brokers ≡ slice_set w.brokers (node s p.topic p.cluster) b'
      → seen b' ≡ seen (all_written s.per_ledger (topic_at s w p.topic p.cluster) p.plan.writes) → Outcome s w o w'

does_outcome : (s : Setup) (w : World) (o : Option Planned) → Outcome s w o (does_planned s w o)
unfolding broker_does
does_outcome s w None = Outcome.Idle refl refl
does_outcome s w (Some p) =
    on_if (λ (w' : World). Outcome s w (Some p) w') p.plan.idle _ _ (Outcome.Idle refl refl)
    (Outcome.OfBroker p (done s.per_ledger (topic_at s w p.topic p.cluster) p.plan) refl refl refl
    (changes_seen (all_written s.per_ledger (topic_at s w p.topic p.cluster) p.plan.writes) p.plan.changes))

client_outcome : (s : Setup) (w : World) (o : Option Planned) (c : ℕ) (l : Option LinkName) (a : Acted) → o ≡ None → Outcome s w o (client_does s w c l a)
unfolding client_does
client_outcome s w o c l a none = on_if (λ (w' : World). Outcome s w o w') a.idle _ _ (Outcome.Idle refl refl) (Outcome.OfClient none refl refl)

no_plan : (s : Setup) (w : World) (e : Event) (o : Option Planned) → o ≡ None → (if in_range s e then o else None) ≡ None
no_plan s w e o none = on_if (λ (p : Option Planned). p ≡ None) (in_range s e) o None none refl

event_outcome : (s : Setup) (w : World) (e : Event) → Outcome s w (planned s w e) (happens s w e)
unfolding happens planned
event_outcome s w (event.Go c) =
    on_if (λ (w' : World). Outcome s w (planned s w (event.Go c)) w') (has_client s c) _ _ (client_outcome s w _ c None _ (no_plan s w (event.Go c) None refl)) (Outcome.Idle refl refl)
event_outcome s w (event.Reconnect c) =
    on_if (λ (w' : World). Outcome s w (planned s w (event.Reconnect c)) w') (has_client s c) _ _ (client_outcome s w _ c None _ (no_plan s w (event.Reconnect c) None refl)) (Outcome.Idle refl refl)
event_outcome s w (event.Get c) =
    on_if (λ (w' : World). Outcome s w (planned s w (event.Get c)) w') (has_client s c) _ _ (client_outcome s w _ c _ _ (no_plan s w (event.Get c) None refl)) (Outcome.Idle refl refl)
event_outcome s w e = does_outcome s w (planned s w e)

abbrev accept : Mirrors → Result Mirrors Refusal
accept a = Ok a

seen_as : (bs bs' : List Broker) (n n' : ℕ) → bs ≡ bs' → n ≡ n' → seen_all bs n ≡ seen_all bs' n'
seen_as bs bs' n n' same number = ap (λ (cs : List Broker). seen_all cs n) same ∙ ap (λ (k : ℕ). seen_all bs' k) number

one_more : (n m : ℕ) → m ≡ n + 1 → (m == n) ≡ false
one_more n m e = grind (arith, nat_tests, e)

same_number : (n m : ℕ) → m ≡ n → (m == n) ≡ true
same_number n m e = grind (arith, nat_tests, e)

told_outcome : (s : Setup) (w : World) (e : Event) (o : Option Planned) (w' : World) → length w.brokers ≡ length s.topics * length s.clusters → Outcome s w o w'
    → PlannedHolds s w (w.events + 1) e o
    → Told s w (if w'.events == w.events then [] else Begins (w.events + 1) ∷ planned_items s w (all_writes o) e o) w'
told_outcome s w e o w' size (Outcome.Idle events brokers) holds =
    ap (λ (b : Bool). audited_from_by strictness.Whole s (world_seen w) (if b then [] else Begins (w.events + 1) ∷ planned_items s w (all_writes o) e o)) (same_number w.events w'.events events)
    ∙ ap accept (seen_as w.brokers w'.brokers w.events w'.events (sym brokers) (sym events))
told_outcome s w e o w' size (Outcome.OfClient none events brokers) holds =
    ap (λ (b : Bool). audited_from_by strictness.Whole s (world_seen w) (if b then [] else Begins (w.events + 1) ∷ planned_items s w (all_writes o) e o)) (one_more w.events w'.events events)
    ∙ (ap (λ (p : Option Planned). audited_from_by strictness.Whole s (world_seen w) (Begins (w.events + 1) ∷ planned_items s w (all_writes p) e p)) none
    ∙ (begins s w [] ∙ ap accept (seen_as w.brokers w'.brokers (w.events + 1) w'.events (sym brokers) (sym events))))
told_outcome s w e o w' size (Outcome.OfBroker p b' some events brokers same) holds =
    let H : Option Planned → Type 0 = λ q. PlannedHolds s w (w.events + 1) e q in
    let h : H (Some p) = subst H some holds in
    ap (λ (b : Bool). audited_from_by strictness.Whole s (world_seen w) (if b then [] else Begins (w.events + 1) ∷ planned_items s w (all_writes o) e o)) (one_more w.events w'.events events)
    ∙ (ap (λ (q : Option Planned). audited_from_by strictness.Whole s (world_seen w) (Begins (w.events + 1) ∷ planned_items s w (all_writes q) e q)) some
    ∙ (ap (λ (ws : List Write). audited_from_by strictness.Whole s (world_seen w) (Begins (w.events + 1) ∷ told_at p.topic p.cluster (acts_of (site s p.topic p.cluster) (cause_of (topic_at s w p.topic p.cluster) e) (topic_at s w p.topic p.cluster) ws))) (whole_take p.plan.writes)
    ∙ (told_planned s w e p p.plan.writes b' h.0 size h.1 same ∙ ap accept (seen_as (slice_set w.brokers (node s p.topic p.cluster) b') w'.brokers (w.events + 1) w'.events (sym brokers) (sym events)))))

event_told : (s : Setup) (w : World) (e : Event) → IsScripted s → Tracing s w → IsShort w → Told s w (event_items s w e) (happens s w e)
unfolding event_items
event_told s w e scripted h short =
    told_outcome s w e (planned s w e) (happens s w e) (knows_now s w h.0.0.0 short).size (event_outcome s w e) (plan_told s w (w.events + 1) e scripted h short)

-- ---- a stop in the midst of an event, and a stop of everything

holds_take : (s : Setup) (bs : List Broker) (n t x : ℕ) (c : Cause) (b : Broker) (k : ℕ) (ws : List Write) → PlanHolds s bs n t x c b ws → PlanHolds s bs n t x c b (take k ws)
holds_take s bs n t x c b zero ws h = tt
holds_take s bs n t x c b (suc k) [] h = tt
holds_take s bs n t x c b (suc k) (w ∷ ws) h = (h.0, holds_take s bs n t x c (written s.per_ledger b w) k ws h.1)

halted_seen : (per : ℕ) (b : Broker) (ws : List Write) → seen (changed (all_written per b (ws ++ write.Ledger ∷ [])) change.Forget) ≡ seen (all_written per b ws)
halted_seen per b ws =
    changes_seen (all_written per b (ws ++ write.Ledger ∷ [])) (change.Forget ∷ [])
    ∙ (ap seen (written_last per b ws write.Ledger) ∙ opened_seen (all_written per b ws))

halt_told : (s : Setup) (w : World) (k : ℕ) (e : Event) → IsScripted s → Tracing s w → IsShort w → Told s w (halt_items s w k e) (halts_planned s w k (planned s w e))
unfolding halt_items broker_halts
halt_told s w k e scripted h short = by (planned s w e) (plan_told s w (w.events + 1) e scripted h short)
  where
    size : length w.brokers ≡ length s.topics * length s.clusters
    size = (knows_now s w h.0.0.0 short).size

    by : (o : Option Planned) → PlannedHolds s w (w.events + 1) e o
        → Told s w (if (halts_planned s w k o).events == w.events then [] else Begins (w.events + 1) ∷ planned_items s w k e o) (halts_planned s w k o)
    by None holds =
        ap (λ (b : Bool). audited_from_by strictness.Whole s (world_seen w) (if b then [] else Begins (w.events + 1) ∷ [])) (same_number w.events w.events refl)
    by (Some p) holds =
        let b = topic_at s w p.topic p.cluster in
        ap (λ (t : Bool). audited_from_by strictness.Whole s (world_seen w) (if t then [] else Begins (w.events + 1) ∷ planned_items s w k e (Some p))) (one_more w.events (w.events + 1) refl)
        ∙ told_planned s w e p (take k p.plan.writes) (halted s.per_ledger b k p.plan) holds.0 size
        (holds_take s w.brokers (w.events + 1) p.topic p.cluster (cause_of b e) b k p.plan.writes holds.1) (halted_seen s.per_ledger b (take k p.plan.writes))

all_stopped : (per : ℕ) (bs : List Broker) → map seen (map (λ (b : Broker). done per b restart) bs) ≡ map seen bs
unfolding restart
all_stopped per [] = refl
all_stopped per (b ∷ bs) =
    ap (λ m. m ∷ map seen (map (λ (c : Broker). done per c restart) bs)) (changes_seen (written per b write.Ledger) (change.Forget ∷ []) ∙ opened_seen b)
    ∙ ap (λ ms. seen b ∷ ms) (all_stopped per bs)

stop_told : (s : Setup) (w : World) → Told s w (Begins (w.events + 1) ∷ []) (stops s w)
unfolding stops
stop_told s w = begins s w [] ∙ ap accept (ap (λ ms. record { topics = ms; events = w.events + 1 }) (sym (all_stopped s.per_ledger w.brokers)))

-- ---- lines after lines

abbrev is_ok : Result Mirrors Refusal → Bool
is_ok (Ok a) = true
is_ok (Err r) = false

abbrev ok_or : Mirrors → Result Mirrors Refusal → Mirrors
ok_or d (Ok a) = a
ok_or d (Err r) = d

err_not_ok : {r : Refusal} {a : Mirrors} → Err r ≡ Ok a → ⊥
err_not_ok h = false≢true (ap is_ok h)

ok_is : {a b : Mirrors} → Ok a ≡ accept b → a ≡ b
ok_is {a} {b} h = ap (ok_or a) h

told_both : (s : Setup) (a b : Mirrors) (is js : List Item) → audited_from_by strictness.Whole s a is ≡ Ok b → audited_from_by strictness.Whole s a (is ++ js) ≡ audited_from_by strictness.Whole s b js
told_both s a b [] js h = ap (λ (c : Mirrors). audited_from_by strictness.Whole s c js) (ok_is h)
told_both s a b (i ∷ is) js h = by (refused_by strictness.Whole s a i) h (told_both s (told s a i) b is js)
  where
    by : (o : Option ℕ) → judged a.events o (audited_from_by strictness.Whole s (told s a i) is) ≡ Ok b
        → (audited_from_by strictness.Whole s (told s a i) is ≡ Ok b → audited_from_by strictness.Whole s (told s a i) (is ++ js) ≡ audited_from_by strictness.Whole s b js)
        → judged a.events o (audited_from_by strictness.Whole s (told s a i) (is ++ js)) ≡ audited_from_by strictness.Whole s b js
    by None k ih = ih k
    by (Some rule) k ih = absurd (err_not_ok k)

-- what accepted lines make
pub told_is : (s : Setup) (a b : Mirrors) (is : List Item) → audited_from_by strictness.Whole s a is ≡ Ok b → all_told s a is ≡ b
told_is s a b [] h = ok_is h
told_is s a b (i ∷ is) h = by (refused_by strictness.Whole s a i) h (told_is s (told s a i) b is)
  where
    by : (o : Option ℕ) → judged a.events o (audited_from_by strictness.Whole s (told s a i) is) ≡ Ok b → (audited_from_by strictness.Whole s (told s a i) is ≡ Ok b → all_told s (told s a i) is ≡ b)
        → all_told s (told s a i) is ≡ b
    by None k ih = ih k
    by (Some rule) k ih = absurd (err_not_ok k)

told_on : (s : Setup) (w v u : World) (is js : List Item) → Told s w is v → Told s v js u → Told s w (is ++ js) u
told_on s w v u is js h k = told_both s (world_seen w) (world_seen v) is js h ∙ k

-- ---- a run within the limits

pub few_short : (w : World) → w.events ≤ most_events → IsShort w
few_short w few = omega (arith, few)

not_over : (b : Bool) (o : Option ℕ) → or_else (if b then Some 2 else None) o ≡ None → b ≡ false
not_over true o h = absurd (none-some 2 (sym h))
not_over false o h = refl

within : (w : World) → all_limits w ≡ None → IsShort w
within w h =
    let is = not_over (nat_lt most_events (w.events + w.idle)) (if nat_lt most_sent_bytes w.frame_bytes then Some 3 else None) h in
    few_short w (grind (arith, nat_tests, is))

-- what the induction carries
pub record Fine (s : Setup) (r : Ran) : Type 0 where
  pub kept : Tracing s r.world
  pub short : IsShort r.world

gone_told : (s : Setup) (r : Ran) (w' : World) (items : List Item) → (all_limits w' ≡ None → Told s r.world items w')
    → Told s r.world (unless_ended (goes_on all_limits r w') items) (goes_on all_limits r w').world
gone_told s r w' items h = by r.ended refl
  where
    limited : (o : Option ℕ) → all_limits w' ≡ o → Told s r.world (unless_ended (ends_or r w' o) items) (ends_or r w' o).world
    limited None is = h is
    limited (Some n) is = refl

    by : (o : Option ℕ) → r.ended ≡ o → Told s r.world (unless_ended (goes_on all_limits r w') items) (goes_on all_limits r w').world
    by None is =
        let G : Bool → Type 0 = λ b. Told s r.world (unless_ended (if b then r else ends_or r w' (all_limits w')) items) (if b then r else ends_or r w' (all_limits w')).world in
        subst G (sym (ap is_some is)) (limited (all_limits w') refl)
    by (Some n) is =
        let G : Bool → Type 0 = λ b. Told s r.world (unless_ended (if b then r else ends_or r w' (all_limits w')) items) (if b then r else ends_or r w' (all_limits w')).world in
        let E : Bool → Type 0 = λ b. Told s r.world (if b then [] else items) r.world in
        subst G (sym (ap is_some is)) (subst E (sym (ap is_some is)) refl)

gone_fine : (s : Setup) (r : Ran) (w' : World) → Fine s r → Tracing s w' → Fine s (goes_on all_limits r w')
gone_fine s r w' fine kept = on_if (Fine s) (is_some r.ended) r _ fine (limited (all_limits w') refl)
  where
    limited : (o : Option ℕ) → all_limits w' ≡ o → Fine s (ends_or r w' o)
    limited None is = record { kept = kept; short = within w' is }
    limited (Some n) is = record { kept = fine.kept; short = fine.short }

event_kept : (s : Setup) (w : World) (e : Event) → IsScripted s → Tracing s w → Tracing s (happens s w e)
event_kept s w e scripted h = event_done s (Tracing s) (tracing_kept s (named s scripted)) w e h

settles_fine : (s : Setup) (r : Ran) (e : Event) → IsScripted s → Fine s r → Fine s (settles all_limits s r e)
settles_fine s r e scripted fine =
    gone_fine s r _ fine ((tracing_kept s (named s scripted)).idle (happens s r.world e) r.world.idle (event_kept s r.world e scripted fine.kept))

all_settle_fine : (s : Setup) (r : Ran) (es : List Event) → IsScripted s → Fine s r → Fine s (all_settle all_limits s r es)
all_settle_fine s r [] scripted fine = fine
all_settle_fine s r (e ∷ es) scripted fine = all_settle_fine s (settles all_limits s r e) es scripted (settles_fine s r e scripted fine)

settling_told : (s : Setup) (r : Ran) (es : List Event) → IsScripted s → Fine s r → Told s r.world (settling_items all_limits s r es) (all_settle all_limits s r es).world
settling_told s r [] scripted fine = refl
settling_told s r (e ∷ es) scripted fine =
    let r' : Ran = settles all_limits s r e in
    told_on s r.world r'.world (all_settle all_limits s r' es).world (unless_ended r' (event_items s r.world e)) (settling_items all_limits s r' es)
    (gone_told s r (record (happens s r.world e) { idle = r.world.idle }) (event_items s r.world e) (λ limit. event_told s r.world e scripted fine.kept fine.short))
    (settling_told s r' es scripted (settles_fine s r e scripted fine))

counted_fine : (s : Setup) (r : Ran) → IsScripted s → Fine s r → Fine s (counting_round r)
counted_fine s r scripted fine = record { kept = (tracing_kept s (named s scripted)).round r.world (r.world.rounds + 1) fine.kept; short = fine.short }

rounds_fine : (m : ℕ) (s : Setup) (r : Ran) → IsScripted s → Fine s r → Fine s (rounds_of m all_limits s r)
rounds_fine zero s r scripted fine = fine
rounds_fine (suc m) s r scripted fine =
    let r' : Ran = all_settle all_limits s r (round_of (pairs s)) in
    let fine' : Fine s r' = all_settle_fine s r (round_of (pairs s)) scripted fine in
    on_elim (Fine s) (is_some r'.ended || (r'.world.events == r.world.events)) r' (rounds_of m all_limits s (counting_round r')) fine'
    (rounds_fine m s (counting_round r') scripted (counted_fine s r' scripted fine'))

rounds_told : (m : ℕ) (s : Setup) (r : Ran) → IsScripted s → Fine s r → Told s r.world (rounds_items m all_limits s r) (rounds_of m all_limits s r).world
rounds_told zero s r scripted fine = refl
rounds_told (suc m) s r scripted fine = by (is_some r'.ended || (r'.world.events == r.world.events)) (rounds_told m s (counting_round r') scripted (counted_fine s r' scripted fine'))
  where
    r' : Ran
    r' = all_settle all_limits s r (round_of (pairs s))

    fine' : Fine s r'
    fine' = all_settle_fine s r (round_of (pairs s)) scripted fine

    one : Told s r.world (settling_items all_limits s r (round_of (pairs s))) r'.world
    one = settling_told s r (round_of (pairs s)) scripted fine

    by : (b : Bool) → Told s r'.world (rounds_items m all_limits s (counting_round r')) (rounds_of m all_limits s (counting_round r')).world
        → Told s r.world (settling_items all_limits s r (round_of (pairs s)) ++ (elim b as (λ b. List Item) [ true ↦ [] | false ↦ rounds_items m all_limits s (counting_round r') ]))
        (elim b as (λ b. Ran) [ true ↦ r' | false ↦ rounds_of m all_limits s (counting_round r') ]).world
    by true rest = told_on s r.world r'.world r'.world (settling_items all_limits s r (round_of (pairs s))) [] one refl
    by false rest =
        told_on s r.world r'.world (rounds_of m all_limits s (counting_round r')).world (settling_items all_limits s r (round_of (pairs s)))
        (rounds_items m all_limits s (counting_round r')) one rest

pub step_told : (s : Setup) (r : Ran) (e : Step) → IsScripted s → Fine s r → Told s r.world (step_items all_limits s r e) (steps all_limits s r e).world
unfolding step_items steps settled_world
step_told s r (step.Plain e) scripted fine =
    gone_told s r (happens s r.world e) (event_items s r.world e) (λ limit. event_told s r.world e scripted fine.kept fine.short)
step_told s r (step.Halt k e) scripted fine =
    gone_told s r (halts_planned s r.world k (planned s r.world e)) (halt_items s r.world k e) (λ limit. halt_told s r.world k e scripted fine.kept fine.short)
step_told s r step.Settle scripted fine =
    let r' : Ran = all_settle all_limits s r (resets_of (pairs s)) in
    told_on s r.world r'.world (rounds_of (budget s r.world + 1) all_limits s r').world (settling_items all_limits s r (resets_of (pairs s)))
    (rounds_items (budget s r.world + 1) all_limits s r') (settling_told s r (resets_of (pairs s)) scripted fine)
    (rounds_told (budget s r.world + 1) s r' scripted (all_settle_fine s r (resets_of (pairs s)) scripted fine))
step_told s r step.Stop scripted fine = gone_told s r (stops s r.world) (Begins (r.world.events + 1) ∷ []) (λ limit. stop_told s r.world)

pub step_fine : (s : Setup) (r : Ran) (e : Step) → IsScripted s → Fine s r → Fine s (steps all_limits s r e)
unfolding steps settled_world
step_fine s r (step.Plain e) scripted fine = gone_fine s r _ fine (event_kept s r.world e scripted fine.kept)
step_fine s r (step.Halt k e) scripted fine =
    gone_fine s r _ fine (plan_halted s (Tracing s) (tracing_kept s (named s scripted)) r.world k (planned s r.world e) (planned_shape s r.world e) fine.kept)
step_fine s r step.Settle scripted fine =
    rounds_fine (budget s r.world + 1) s (all_settle all_limits s r (resets_of (pairs s))) scripted (all_settle_fine s r (resets_of (pairs s)) scripted fine)
step_fine s r step.Stop scripted fine = gone_fine s r _ fine ((tracing_kept s (named s scripted)).stop r.world fine.kept)

steps_told : (s : Setup) (r : Ran) (es : List Step) → IsScripted s → Fine s r → Told s r.world (items_from all_limits s r es) (run_from all_limits s r es).world
steps_told s r [] scripted fine = refl
steps_told s r (e ∷ es) scripted fine =
    let r' : Ran = steps all_limits s r e in
    told_on s r.world r'.world (run_from all_limits s r' es).world (step_items all_limits s r e) (items_from all_limits s r' es) (step_told s r e scripted fine)
    (steps_told s r' es scripted (step_fine s r e scripted fine))

-- the opening world is seen as nothing
pub opening_seen : (s : Setup) → world_seen (opening_world s) ≡ opening_mirrors s
opening_seen s = ap (λ ms. record { topics = ms; events = 0 }) (copies (length s.topics * length s.clusters))
  where
    copies : (n : ℕ) → map seen (replicate n (new_broker (length s.clusters) (length s.clients))) ≡ replicate n no_mirror
    copies zero = refl
    copies (suc n) = ap (λ ms. no_mirror ∷ ms) (copies n)

pub traced_wholly : LawTracedWhole
traced_wholly s scripted es =
    ap (λ (a : Mirrors). audited_from_by strictness.Whole s a (traced all_limits s es)) (sym (opening_seen s))
    ∙ steps_told s (record { world = opening_world s; ended = None }) es scripted
    (record { kept = (tracing_kept s (named s scripted)).opening; short = few_short (opening_world s) (omega arith) })

pub traced_accepted : (s : Setup) → IsScripted s → (es : List Step) → audited s (traced all_limits s es) ≡ Ok (world_seen (run_under all_limits s es).world)
traced_accepted s scripted es =
    plainly strictness.Whole s (opening_mirrors s) (world_seen (run_under all_limits s es).world) (traced all_limits s es) (traced_wholly s scripted es)
