-- A run that is resumed from where it was kept is alike to the one that goes on after the stop.
use Rattle.std.proofs.Common.{◌≡◌, ℕ, zero, suc, ◌+◌, ◌^◌, ◌<◌, ◌==◌, Bool, true, false, List, [], ◌∷◌, ◌++◌, refl, sym, ap, subst, ◌∙◌}
use Rattle.std.specs.Prelude.{Option, Some, None, ◌||◌, if◌then◌else◌, is_some, slice_index_or, slice_set, take}
use Rattle.std.proofs.lemmas.Bool.{false≢true}
use Rattle.std.proofs.lemmas.Option.{none-some}
use Rattle.world_laws.proofs.Types.{Event, Step}
use Rattle.world_laws.proofs.Types.step
use Rattle.geo_base.specs.Broker.{Broker, no_broker}
use Rattle.geo_base.specs.Happening.{stops}
use Rattle.geo_base.specs.Laws.{Always, IsShort, begun}
use Rattle.geo_base.specs.Moments.{Moment, Settling, partly_written, settling_so_far}
use Rattle.geo_base.specs.Plan.{all_written}
use Rattle.geo_base.specs.Planned.{Planned, planned}
use Rattle.geo_base.specs.Report.{report, report_lines}
use Rattle.geo_base.specs.Run.{Limits, Ran, all_settle, budget, counting_round, ends_or, goes_on, no_limits, pairs, resets_of, round_of, rounds_of, run, run_from, settled_world, settles, steps}
use Rattle.geo_base.specs.Safe.{AllOnce, NothingForgotten, OnlySettled}
use Rattle.geo_base.specs.Settled.{SettledSoFar, settled, settled_at}
use Rattle.geo_base.specs.Setup.{Setup}
use Rattle.geo_base.specs.World.{World, node, opening_world}
use Rattle.world_laws.specs.AlikeWorlds.{AlwaysOn, AreAlike, AreEven, LawResumed, RunsAlike, kept_behind, world_on}
use Rattle.world_laws.specs.Reached.{ReachedFrom}
use Rattle.world_laws.specs.Starts.{IsStart, resumed_world}
use Rattle.world_laws.specs.Telling.{AlwaysTold, AlwaysToldOn, BetweenTold, BetweenToldOn, Telling, told_at, told_under}
use Rattle.world_laws.proofs.KeptRuns.AlikeRuns.{all_even, none_even, run_alike, settling_alike}
use Rattle.world_laws.proofs.KeptRuns.AlikeWorlds.{event_alike, halt_alike, planned_alike, stop_alike}
use Rattle.world_laws.proofs.Dispatching.Keeping.{kept_between}
use Rattle.world_laws.proofs.OnceInOrder.Once.{once_always}
use Rattle.world_laws.proofs.Induction.Reaching.{goes_on as reached_on}
use Rattle.world_laws.proofs.KeptRuns.Loaded.{loaded}
use Rattle.world_laws.proofs.KeptRuns.Starting.{opening_starts}
use Rattle.world_laws.proofs.Telling.ToldLaws.{safe_always}
use Rattle.world_laws.proofs.Walks.Walk.{on_elim, on_if}

-- ---- from one to the next

through : (u v w : World) → AreAlike u v → AreAlike v w → AreAlike u w
through u v w g h = record {
  brokers = g.brokers ∙ h.brokers;
  clients = g.clients ∙ h.clients;
  links = record {
    forward = g.links.forward ∙ h.links.forward;
    back = g.links.back ∙ h.links.back;
    to_broker = g.links.to_broker ∙ h.links.to_broker;
    to_client = g.links.to_client ∙ h.links.to_client;
    left = g.links.left;
    right = h.links.right;
  };
  events = g.events ∙ h.events;
  idle = g.idle ∙ h.idle;
  rounds = g.rounds ∙ h.rounds;
  frame_bytes = g.frame_bytes ∙ h.frame_bytes;
}

-- ---- runs in parts

pub run_parts : (l : Limits) (s : Setup) (r : Ran) (xs ys : List Step) → run_from l s r (xs ++ ys) ≡ run_from l s (run_from l s r xs) ys
run_parts l s r [] ys = refl
run_parts l s r (x ∷ xs) ys = run_parts l s (steps l s r x) xs ys

-- a run that has not ended did its last step
gone_none : (l : Limits) (p : Ran) (w : World) → (goes_on l p w).ended ≡ None → goes_on l p w ≡ begun w
gone_none l p w h = by (is_some p.ended) (l w) refl h
  where
    by : (t : Bool) (o : Option ℕ) → is_some p.ended ≡ t → (if t then p else ends_or p w o).ended ≡ None → (if t then p else ends_or p w o) ≡ begun w
    by true o is e = absurd (false≢true (ap (λ (o : Option ℕ). is_some o) (sym e) ∙ is))
    by false None is e = refl
    by false (Some n) is e = absurd (none-some n (sym e))

pub stopped_none : (l : Limits) (s : Setup) (p : Ran) → (steps l s p step.Stop).ended ≡ None → steps l s p step.Stop ≡ begun (stops s p.world)
unfolding steps
stopped_none l s p h = gone_none l p (stops s p.world) h

-- the run after a stop, as the one that is loaded
loaded_run : (l : Limits) (s : Setup) (v : World) (p : Ran) → IsStart s v → ReachedFrom s v p.world → (steps l s p step.Stop).ended ≡ None
    → RunsAlike (steps l s p step.Stop) (begun (resumed_world s (steps l s p step.Stop).world))
loaded_run l s v p start r h =
    subst (λ (q : Ran). RunsAlike q (begun (resumed_world s q.world))) (sym (stopped_none l s p h)) (record { world = loaded s v p.world start r; ended = refl })

pub resumed_alike : (l : Limits) (s : Setup) → AreEven l → (v : World) → IsStart s v → (before es : List Step)
    → let stopped = run_from l s (begun v) (before ++ step.Stop ∷ []) in stopped.ended ≡ None
    → RunsAlike (run_from l s (begun v) (before ++ step.Stop ∷ es)) (run_from l s (begun (resumed_world s stopped.world)) es)
resumed_alike l s even v start before es h =
    let p : Ran = run_from l s (begun v) before in
    let whole : run_from l s (begun v) (before ++ step.Stop ∷ es) ≡ run_from l s (steps l s p step.Stop) es = run_parts l s (begun v) before (step.Stop ∷ es) in
    let stopped : run_from l s (begun v) (before ++ step.Stop ∷ []) ≡ steps l s p step.Stop = run_parts l s (begun v) before (step.Stop ∷ []) in
    let alike = loaded_run l s v p start ((reached_on s v).limited l before) (ap (λ (r : Ran). r.ended) (sym stopped) ∙ h) in
    subst (λ (r : Ran). RunsAlike r (run_from l s (begun (resumed_world s (run_from l s (begun v) (before ++ step.Stop ∷ [])).world)) es)) (sym whole)
    (subst (λ (r : Ran). RunsAlike (run_from l s (steps l s p step.Stop) es) (run_from l s (begun (resumed_world s r.world)) es)) (sym stopped)
    (run_alike l s even (steps l s p step.Stop) (begun (resumed_world s (steps l s p step.Stop).world)) alike es))

-- ---- a run without limits does not end

abbrev GoesOn : Ran → Type 0
GoesOn r = r.ended ≡ None

gone_open : (r : Ran) (w : World) → GoesOn r → GoesOn (goes_on no_limits r w)
gone_open r w h = on_if GoesOn (is_some r.ended) _ _ h refl

settle_open : (s : Setup) (r : Ran) (es : List Event) → GoesOn r → GoesOn (all_settle no_limits s r es)
settle_open s r [] h = h
settle_open s r (e ∷ es) h = settle_open s (settles no_limits s r e) es (gone_open r _ h)

rounds_open : (n : ℕ) (s : Setup) (r : Ran) → GoesOn r → GoesOn (rounds_of n no_limits s r)
rounds_open zero s r h = h
rounds_open (suc n) s r h =
    let r' : Ran = all_settle no_limits s r (round_of (pairs s)) in
    let h' = settle_open s r (round_of (pairs s)) h in
    on_elim GoesOn (is_some r'.ended || (r'.world.events == r.world.events)) r' (rounds_of n no_limits s (counting_round r')) h' (rounds_open n s (counting_round r') h')

step_open : (s : Setup) (r : Ran) (e : Step) → GoesOn r → GoesOn (steps no_limits s r e)
unfolding steps settled_world
step_open s r (step.Plain e) h = gone_open r _ h
step_open s r (step.Halt k e) h = gone_open r _ h
step_open s r step.Settle h = rounds_open (budget s r.world + 1) s (all_settle no_limits s r (resets_of (pairs s))) (settle_open s r (resets_of (pairs s)) h)
step_open s r step.Stop h = gone_open r _ h

pub run_open : (s : Setup) (r : Ran) (es : List Step) → GoesOn r → GoesOn (run_from no_limits s r es)
run_open s r [] h = h
run_open s r (e ∷ es) h = run_open s (steps no_limits s r e) es (step_open s r e h)

-- so the run of a script goes on from what is kept of it
kept_alike : (s : Setup) (before es : List Step) → RunsAlike (run_from no_limits s (begun (opening_world s)) (before ++ step.Stop ∷ es)) (run_from no_limits s (begun (kept_behind s before)) es)
kept_alike s before es =
    resumed_alike no_limits s none_even (opening_world s) (opening_starts s) before es (run_open s (begun (opening_world s)) (before ++ step.Stop ∷ []) refl)

pub script_alike : (s : Setup) (before es : List Step) → AreAlike (run s (before ++ step.Stop ∷ es)) (run_from no_limits s (begun (kept_behind s before)) es).world
script_alike s before es = (kept_alike s before es).world

-- ---- what is claimed of a run

-- of a run that goes on from a world that is alike to the one to which a script's run came, between any two events
pub between_alike : (s : Setup) (v : World) (before es : List Step) (at : Settling) → AreAlike (run s before) v
    → AreAlike (settling_so_far no_limits s (run_from no_limits s (begun (opening_world s)) (before ++ es)) at).world (world_on s v es at)
between_alike s v before es at h =
    let came : RunsAlike (run_from no_limits s (begun (opening_world s)) before) (begun v) = record { world = h; ended = run_open s (begun (opening_world s)) before refl } in
    subst (λ (r : Ran). AreAlike (settling_so_far no_limits s r at).world (world_on s v es at)) (sym (run_parts no_limits s (begun (opening_world s)) before es))
    (settling_alike no_limits s none_even _ _ (run_alike no_limits s none_even _ (begun v) came es) at).world

partly_alike : (s : Setup) (v w : World) (k : ℕ) (o : Option Planned) → AreAlike v w → AreAlike (partly_written s v k o) (partly_written s w k o)
partly_alike s v w k None h = h
partly_alike s v w k (Some p) h =
    let n : ℕ = node s p.topic p.cluster in
    record {
      brokers = ap (λ (bs : List Broker). slice_set bs n (all_written s.per_ledger (slice_index_or bs n no_broker) (take k p.plan.writes))) h.brokers;
      clients = h.clients;
      links = h.links;
      events = h.events;
      idle = h.idle;
      rounds = h.rounds;
      frame_bytes = h.frame_bytes;
    }

moment_alike : (s : Setup) (v w : World) (k : ℕ) (e : Event) → AreAlike v w → AreAlike (partly_written s v k (planned s v e)) (partly_written s w k (planned s w e))
moment_alike s v w k e h =
    subst (λ (o : Option Planned). AreAlike (partly_written s v k (planned s v e)) (partly_written s w k o)) (planned_alike s v w e h) (partly_alike s v w k (planned s v e) h)

-- what is always so, and is the same of worlds that are alike, is always so in the run that goes on
pub always_on : (s : Setup) (Holds : World → SettledSoFar → Type 0) → ((v w : World) (told : SettledSoFar) → AreAlike v w → Holds v told → Holds w told) → Always s Holds
    → (v : World) (before es : List Step) → AreAlike (run s before) v → AlwaysOn s v before es Holds
always_on s Holds moved a v before es h = record {
  between = λ k at. moved _ (world_on s v (take k es) at) (settled s (before ++ take k es)) (between_alike s v before (take k es) at h) (a.between no_limits (before ++ take k es) at);
  moment = λ k at e writes.
      let m : Moment = record { steps = before ++ take k es; settling = at; event = e; writes = writes } in
      moved _ _ (settled_at no_limits s m) (moment_alike s _ (world_on s v (take k es) at) writes e (between_alike s v before (take k es) at h)) (a.moment no_limits m);
}

-- the same of whatever is told
pub always_told_on : (tells : Telling) (s : Setup) (Q : World → SettledSoFar → Type 0) → ((v w : World) (told : SettledSoFar) → AreAlike v w → Q v told → Q w told) → AlwaysTold tells s Q
    → (v : World) (before es : List Step) → AreAlike (run s before) v → AlwaysToldOn tells s v before es Q
always_told_on tells s Q moved a v before es h = record {
  between = λ k at.
      moved _ (world_on s v (take k es) at) (told_under tells no_limits s (before ++ take k es)) (between_alike s v before (take k es) at h) (a.between no_limits (before ++ take k es) at);
  moment = λ k at e writes.
      let m : Moment = record { steps = before ++ take k es; settling = at; event = e; writes = writes } in
      moved _ _ (told_at tells no_limits s m) (moment_alike s _ (world_on s v (take k es) at) writes e (between_alike s v before (take k es) at h)) (a.moment no_limits m);
}

pub between_told_on : (tells : Telling) (s : Setup) (Q : World → SettledSoFar → Type 0) → ((v w : World) (told : SettledSoFar) → AreAlike v w → Q v told → Q w told) → BetweenTold tells s Q
    → (v : World) (before es : List Step) → AreAlike (run s before) v → BetweenToldOn tells s v before es Q
between_told_on tells s Q moved b v before es h = record {
  between = λ k at.
      moved _ (world_on s v (take k es) at) (told_under tells no_limits s (before ++ take k es)) (between_alike s v before (take k es) at h) (b.between no_limits (before ++ take k es) at);
}

-- facts of brokers
same_once : (v w : World) (told : SettledSoFar) → AreAlike v w → AllOnce v → AllOnce w
same_once v w told h once = subst (λ (bs : List Broker). AllOnce (record v { brokers = bs })) h.brokers once

abbrev SettledWhileShort : Setup → World → SettledSoFar → Type 0
SettledWhileShort s w told = IsShort w → OnlySettled s w told

same_settled : (s : Setup) (v w : World) (told : SettledSoFar) → AreAlike v w → SettledWhileShort s v told → SettledWhileShort s w told
same_settled s v w told h only short =
    subst (λ (bs : List Broker). OnlySettled s (record v { brokers = bs }) told) h.brokers (only (subst (λ (n : ℕ). n < 2 ^ 62) (sym h.events) short))

same_kept : (v w : World) → AreAlike v w → NothingForgotten v → NothingForgotten w
same_kept v w h kept = subst (λ (bs : List Broker). NothingForgotten (record v { brokers = bs })) h.brokers kept

-- ---- the report

report_bare : (s : Setup) (v w : World) → report s (record v { links = w.links; broker_clocks = w.broker_clocks; client_clocks = w.client_clocks }) ≡ report s v
unfolding report_lines
report_bare s v w = refl

world_is : (v w : World) → AreAlike v w → record v { links = w.links; broker_clocks = w.broker_clocks; client_clocks = w.client_clocks } ≡ w
world_is v w h = rw (h.brokers, h.clients, h.events, h.idle, h.rounds, h.frame_bytes) refl

report_alike : (s : Setup) (v w : World) → AreAlike v w → report s v ≡ report s w
report_alike s v w h = sym (report_bare s v w) ∙ ap (report s) (world_is v w h)

-- ---- all of it

pub resumed_law : LawResumed
resumed_law = record {
  event = event_alike;
  halt = halt_alike;
  stop = stop_alike;
  through = through;
  runs = run_alike;
  settling = settling_alike;
  limits = (none_even, all_even);
  reports = report_alike;
  loaded = loaded;
  goes_on = resumed_alike;
  script = script_alike;
  once = λ s v before es h. always_on s (λ w told. AllOnce w) (λ v w told. same_once v w told) (once_always s) v before es h;
  safe = λ s scripted v before es h. always_on s (SettledWhileShort s) (same_settled s) (safe_always.settled s scripted) v before es h;
  kept = λ s v before es at h. same_kept _ (world_on s v es at) (between_alike s v before es at h) ((kept_between s).between no_limits (before ++ es) at);
}
