-- After the steps of every script and a stop, within the limits of a run, what is kept is a start.
use Rattle.std.proofs.Common.{◌≡◌, ℕ, zero, suc, ◌+◌, ◌*◌, ◌<◌, ◌≤◌, ◌==◌, Bool, true, false, List, [], ◌∷◌, ◌++◌, length, refl, sym, ap, subst, ◌∙◌, arith}
use Rattle.std.specs.Prelude.{Option, Some, None, ◌||◌, if◌then◌else◌, is_some, nat_lt}
use Rattle.std.specs.List.{AllByRecursion}
use Rattle.std.proofs.lemmas.Bool.{eqb-false, false≢true}
use Rattle.std.proofs.lemmas.Bool.Decides.{nat_tests}
use Rattle.std.proofs.lemmas.Option.{none-some}
use Rattle.world_laws.proofs.Types.{Event, Step}
use Rattle.world_laws.proofs.Types.event
use Rattle.world_laws.proofs.Types.step
use Rattle.geo_base.specs.Client.{Acted}
use Rattle.geo_base.specs.Happening.{broker_does, broker_halts, client_does, does_planned, halts_planned, happens, stops}
use Rattle.geo_base.specs.Laws.{begun}
use Rattle.geo_base.specs.Planned.{Planned, has_client, planned}
use Rattle.geo_base.specs.Run.{Ran, all_limits, all_settle, budget, counting_round, ends_or, goes_on, most_events, most_sent_bytes, or_else, pairs, resets_of, round_of, rounds_of, run_from, run_under, settled_world, settles, steps}
use Rattle.geo_base.specs.Scripted.{IsScripted}
use Rattle.geo_base.specs.Setup.{Setup}
use Rattle.geo_base.specs.Subscription.{Subscription}
use Rattle.geo_base.specs.World.{LinkName, World, broker_at, opening_world}
use Rattle.world_laws.specs.Reached.{LawReached, MayBeKept, ReachedFrom}
use Rattle.world_laws.specs.Starts.{AreStartCounts, IsStart, most_at_start, resumed_world}
use Rattle.world_laws.specs.Within.{NumbersWithin}
use Rattle.world_laws.proofs.Counters.Counts.{FewAt, few_kept}
use Rattle.world_laws.proofs.KeptRuns.KeptStarts.{kept_start, place_of}
use Rattle.world_laws.proofs.Induction.Layers.{Both, Grounds, both_kept, grounds_kept}
use Rattle.world_laws.proofs.Induction.Reaching.{carried, comes, goes_on as reached_on, ground, indexes}
use Rattle.world_laws.proofs.KeptRuns.ResumedRuns.{run_parts, stopped_none}
use Rattle.world_laws.proofs.Counters.Rising.{numbers_between}
use Rattle.world_laws.proofs.Induction.Runs.{between_by_events, in_run}
use Rattle.world_laws.proofs.KeptRuns.Starting.{opening_starts}
use Rattle.world_laws.proofs.Walks.Walk.{on_if}
use Rattle.geo_base.proofs.Bools.{or_not_second}

-- ---- a round that is counted does an event

-- no round was counted, and no event taken back
record IsLater (v w : World) : Type 0 where
  rounds : w.rounds ≡ v.rounds
  events : v.events ≤ w.events

same_later : (v : World) → IsLater v v
same_later v = record { rounds = refl; events = omega arith }

idle_later : (v : World) (n : ℕ) → IsLater v (record v { idle = n })
idle_later v n = record { rounds = refl; events = omega arith }

does_later : (s : Setup) (w : World) (p : Planned) → IsLater w (broker_does s w p)
unfolding broker_does
does_later s w p = on_if (IsLater w) p.plan.idle _ _ (idle_later w (w.idle + 1)) (record { rounds = refl; events = omega arith })

halts_later : (s : Setup) (w : World) (k : ℕ) (p : Planned) → IsLater w (broker_halts s w k p)
unfolding broker_halts
halts_later s w k p = record { rounds = refl; events = omega arith }

client_later : (s : Setup) (w : World) (c : ℕ) (o : Option LinkName) (a : Acted) → IsLater w (client_does s w c o a)
unfolding client_does
client_later s w c o a = on_if (IsLater w) a.idle _ _ (idle_later w (w.idle + 1)) (record { rounds = refl; events = omega arith })

planned_later : (s : Setup) (w : World) (o : Option Planned) → IsLater w (does_planned s w o)
planned_later s w None = idle_later w (w.idle + 1)
planned_later s w (Some p) = does_later s w p

event_later : (s : Setup) (w : World) (e : Event) → IsLater w (happens s w e)
unfolding happens
event_later s w (event.Go c) = on_if (IsLater w) (has_client s c) _ _ (client_later s w c None _) (idle_later w (w.idle + 1))
event_later s w (event.Reconnect c) = on_if (IsLater w) (has_client s c) _ _ (client_later s w c None _) (idle_later w (w.idle + 1))
event_later s w (event.Get c) = on_if (IsLater w) (has_client s c) _ _ (client_later s w c _ _) (idle_later w (w.idle + 1))
event_later s w e = planned_later s w (planned s w e)

halt_later : (s : Setup) (w : World) (k : ℕ) (o : Option Planned) → IsLater w (halts_planned s w k o)
halt_later s w k None = idle_later w (w.idle + 1)
halt_later s w k (Some p) = halts_later s w k p

stop_later : (s : Setup) (w : World) → IsLater w (stops s w)
unfolding stops
stop_later s w = record { rounds = refl; events = omega arith }

ended_later : (r : Ran) (w : World) (o : Option ℕ) → IsLater r.world w → IsLater r.world (ends_or r w o).world
ended_later r w None h = h
ended_later r w (Some n) h = same_later r.world

gone_later : (r : Ran) (w : World) → IsLater r.world w → IsLater r.world (goes_on all_limits r w).world
gone_later r w h = on_if (λ (q : Ran). IsLater r.world q.world) (is_some r.ended) _ _ (same_later r.world) (ended_later r w (all_limits w) h)

settle_later : (s : Setup) (r : Ran) (es : List Event) → IsLater r.world (all_settle all_limits s r es).world
settle_later s r [] = same_later r.world
settle_later s r (e ∷ es) =
    let one = event_later s r.world e in
    let first = gone_later r (record (happens s r.world e) { idle = r.world.idle }) (record { rounds = one.rounds; events = one.events }) in
    let rest = settle_later s (settles all_limits s r e) es in
    record { rounds = rest.rounds ∙ first.rounds; events = omega (arith, first.events, rest.events) }

-- so there are no more rounds than events
abbrev Fewer : Ran → Type 0
Fewer r = r.world.rounds ≤ r.world.events

later_fewer : (r q : Ran) → IsLater r.world q.world → Fewer r → Fewer q
later_fewer r q h few = omega (arith, h.rounds, h.events, few)

on_round : (b : Bool) (x y : Ran) → Fewer x → (b ≡ false → Fewer y) → Fewer (elim b as (λ b. Ran) [ true ↦ x | false ↦ y ])
on_round true x y f g = f
on_round false x y f g = g refl

rounds_fewer : (n : ℕ) (s : Setup) (r : Ran) → Fewer r → Fewer (rounds_of n all_limits s r)
rounds_fewer zero s r few = few
rounds_fewer (suc n) s r few =
    let r' : Ran = all_settle all_limits s r (round_of (pairs s)) in
    let later : IsLater r.world r'.world = settle_later s r (round_of (pairs s)) in
    on_round (is_some r'.ended || (r'.world.events == r.world.events)) r' (rounds_of n all_limits s (counting_round r')) (later_fewer r r' later few)
    (λ busy.
    let other : r'.world.events ≡ r.world.events → ⊥ = eqb-false r'.world.events r.world.events (or_not_second (is_some r'.ended) (r'.world.events == r.world.events) busy) in
    rounds_fewer n s (counting_round r') (omega (arith, other, later.rounds, later.events, few)))

step_fewer : (s : Setup) (r : Ran) (e : Step) → Fewer r → Fewer (steps all_limits s r e)
unfolding steps settled_world
step_fewer s r (step.Plain e) few = later_fewer r (goes_on all_limits r (happens s r.world e)) (gone_later r _ (event_later s r.world e)) few
step_fewer s r (step.Halt k e) few =
    later_fewer r (goes_on all_limits r (halts_planned s r.world k (planned s r.world e))) (gone_later r _ (halt_later s r.world k (planned s r.world e))) few
step_fewer s r step.Settle few =
    let q : Ran = all_settle all_limits s r (resets_of (pairs s)) in
    rounds_fewer (budget s r.world + 1) s q (later_fewer r q (settle_later s r (resets_of (pairs s))) few)
step_fewer s r step.Stop few = later_fewer r (goes_on all_limits r (stops s r.world)) (gone_later r _ (stop_later s r.world)) few

run_fewer : (s : Setup) (r : Ran) (es : List Step) → Fewer r → Fewer (run_from all_limits s r es)
run_fewer s r [] few = few
run_fewer s r (e ∷ es) few = run_fewer s (steps all_limits s r e) es (step_fewer s r e few)

-- ---- what the limits say of a run that did not end

within : (a b : Bool) → or_else (if a then Some 2 else None) (if b then Some 3 else None) ≡ None → (a ≡ false) × (b ≡ false)
within true b h = absurd (none-some 2 (sym h))
within false true h = absurd (none-some 3 (sym h))
within false false h = (refl, refl)

counts_within : (w : World) → all_limits w ≡ None → w.rounds ≤ w.events → AreStartCounts w
counts_within w h few =
    let tests = within (nat_lt most_events (w.events + w.idle)) (nat_lt most_sent_bytes w.frame_bytes) h in
    let a = tests.0 in let b = tests.1 in
    let low : w.events + w.idle ≤ most_events = grind (arith, nat_tests, a) in
    record { events = low; rounds = omega (arith, low, few); sent = grind (arith, nat_tests, b) }

gone_within : (p : Ran) (w : World) → (goes_on all_limits p w).ended ≡ None → all_limits w ≡ None
gone_within p w h = by (is_some p.ended) (all_limits w) refl h
  where
    by : (t : Bool) (o : Option ℕ) → is_some p.ended ≡ t → (if t then p else ends_or p w o).ended ≡ None → o ≡ None
    by true o is e = absurd (false≢true (ap (λ (o : Option ℕ). is_some o) (sym e) ∙ is))
    by false None is e = refl
    by false (Some n) is e = absurd (none-some n (sym e))

stopped_within : (s : Setup) (p : Ran) → (steps all_limits s p step.Stop).ended ≡ None → all_limits (stops s p.world) ≡ None
unfolding steps
stopped_within s p h = gone_within p (stops s p.world) h

-- ---- numbers and lengths

seeks_more : (n m : ℕ) (vs : List Subscription) → n ≤ m → AllByRecursion (λ (v : Subscription). v.seeks ≤ n) vs → AllByRecursion (λ (v : Subscription). v.seeks ≤ m) vs
seeks_more n m [] le h = tt
seeks_more n m (v ∷ vs) le h = (omega (arith, le, h.0), seeks_more n m vs le h.1)

numbers_more : (s : Setup) (n m : ℕ) (w : World) → n ≤ m → NumbersWithin s n w → NumbersWithin s m w
numbers_more s n m w le h = record {
  brokers = λ z. let b = h.brokers z in record {
    replicators = λ y. record { session = omega (arith, le, (b.replicators y).session); next = omega (arith, le, (b.replicators y).next) };
    seeks = seeks_more n m (broker_at w z).subs le b.seeks;
  };
  clients = λ c. let k = h.clients c in record {
    connection = omega (arith, le, k.connection);
    receipts = omega (arith, le, k.receipts);
    duplicates = omega (arith, le, k.duplicates);
    errors = omega (arith, le, k.errors);
  };
  broker_clocks = λ z. omega (arith, le, h.broker_clocks z);
  client_clocks = λ c. omega (arith, le, h.client_clocks c);
  stamps = λ k i p at. let stamp = h.stamps k i p at in omega (arith, le, stamp);
}

few_entries : (s : Setup) (es : List Step) → FewAt s (run_under all_limits s es).world
few_entries s es = (in_run all_limits s (Both (Grounds s) (FewAt s)) (both_kept s (Grounds s) (FewAt s) (grounds_kept s) (few_kept s)) es).1

-- ---- what is kept of it

may_be_kept : (s : Setup) → IsScripted s → (w : World) → all_limits w ≡ None → w.rounds ≤ w.events → length w.brokers ≡ length s.topics * length s.clusters → NumbersWithin s w.events w → FewAt s w
    → MayBeKept s w
may_be_kept s scripted w limits fewer size numbers few =
    let counts = counts_within w limits fewer in let low = counts.events in
    record {
      few = λ z within.
          let p = place_of s z (subst (λ (m : ℕ). z < m) size within) in
          let there = (few _ _ p.there).entries in
          let same : length (broker_at w z).entries ≤ 4 * w.events = subst (λ (i : ℕ). length (broker_at w i).entries ≤ 4 * w.events) p.is there in
          omega (arith, same, low);
      numbers = numbers_more s w.events most_at_start w (omega (arith, low)) numbers;
      counts = counts;
    }

pub saved : (s : Setup) → IsScripted s → (es : List Step) → let r = run_under all_limits s (es ++ step.Stop ∷ []) in r.ended ≡ None → IsStart s (resumed_world s r.world)
saved s scripted es none =
    subst (λ (w : World). IsStart s (resumed_world s w)) (sym world)
    (kept_start s scripted (opening_world s) p.world (opening_starts s) ((reached_on s (opening_world s)).limited all_limits es)
    (subst (MayBeKept s) world
    (may_be_kept s scripted r.world (subst (λ (w : World). all_limits w ≡ None) (sym world) (stopped_within s p ended)) (run_fewer s (begun (opening_world s)) (es ++ step.Stop ∷ []) (omega arith))
    (ground s scripted (opening_world s) r.world (opening_starts s) ((reached_on s (opening_world s)).limited all_limits (es ++ step.Stop ∷ []))).places.brokers
    ((numbers_between s).limited all_limits (es ++ step.Stop ∷ [])) (few_entries s (es ++ step.Stop ∷ [])))))
  where
    p : Ran
    p = run_from all_limits s (begun (opening_world s)) es

    r : Ran
    r = run_under all_limits s (es ++ step.Stop ∷ [])

    parts : r ≡ steps all_limits s p step.Stop
    parts = run_parts all_limits s (begun (opening_world s)) es (step.Stop ∷ [])

    ended : (steps all_limits s p step.Stop).ended ≡ None
    ended = ap (λ (q : Ran). q.ended) (sym parts) ∙ none

    world : r.world ≡ stops s p.world
    world = ap (λ (q : Ran). q.world) (parts ∙ stopped_none all_limits s p ended)

-- ---- all of it

pub reached_law : LawReached
reached_law = record {
  opening = opening_starts;
  comes = λ s. between_by_events s (ReachedFrom s (opening_world s)) (ReachedFrom s (opening_world s)) (comes s) (λ w r. r);
  goes_on = reached_on;
  ground = ground;
  carried = carried;
  indexes = indexes;
  kept = kept_start;
  saved = saved;
}
