-- The induction over runs, once for all laws: what the opening world has and every event keeps holds at every moment.
use Rattle.std.proofs.Common.{ℕ, zero, suc, ◌+◌, List, [], ◌∷◌, ◌==◌}
use Rattle.std.specs.Prelude.{Option, Some, None, ◌||◌, take, is_some}
use Rattle.world_laws.proofs.Types.{Event, Step}
use Rattle.world_laws.proofs.Types.event
use Rattle.world_laws.proofs.Types.step
use Rattle.geo_base.specs.Client.{Acted}
use Rattle.geo_base.specs.Happening.{broker_does, broker_halts, client_does, does_planned, happens, halts_planned, stops}
use Rattle.geo_base.specs.Laws.{Always, AlwaysIn, BetweenEvents, begun}
use Rattle.geo_base.specs.Planned.{Planned, has_client, planned}
use Rattle.geo_base.specs.Run.{Limits, Ran, all_settle, budget, counting_round, ends_or, goes_on, no_limits, pairs, resets_of, round_of, rounds_of, run, run_from, run_under, settled_world, settles, steps}
use Rattle.geo_base.specs.Settled.{SettledSoFar}
use Rattle.geo_base.specs.Setup.{Setup}
use Rattle.geo_base.specs.World.{ToClient, World, opening_world}
use Rattle.geo_base.specs.Moments.{Moment, Settling, InRound, NotBegun, Resetting, partly_written, settling_so_far, world_at, world_between}
use Rattle.world_laws.proofs.Walks.EventWalk.{HasShape, planned_shape}
use Rattle.world_laws.proofs.Walks.Shapes.{Shape}
use Rattle.world_laws.proofs.Walks.Walk.{on_elim, on_if}

-- A fact of worlds that every event keeps. Counts are no part of such a fact.
pub record IsKept (s : Setup) (P : World → Type 0) : Type 0 where
  pub opening : P (opening_world s)
  pub idle : (w : World) (n : ℕ) → P w → P (record w { idle = n })
  pub round : (w : World) (n : ℕ) → P w → P (record w { rounds = n })
  pub does : (w : World) (p : Planned) → Shape s w p → P w → P (broker_does s w p)
  pub halts : (w : World) (k : ℕ) (p : Planned) → Shape s w p → P w → P (broker_halts s w k p)
  pub goes : (w : World) (c : ℕ) (a : Acted) → P w → P (client_does s w c None a)
  pub gets : (w : World) (c x : ℕ) (a : Acted) → P w → P (client_does s w c (Some (ToClient c x)) a)
  pub stop : (w : World) → P w → P (stops s w)

-- The same by whole events, for a fact that looks at what clients do
pub record IsKeptByEvents (s : Setup) (P : World → Type 0) : Type 0 where
  pub opening : P (opening_world s)
  pub idle : (w : World) (n : ℕ) → P w → P (record w { idle = n })
  pub round : (w : World) (n : ℕ) → P w → P (record w { rounds = n })
  pub event : (w : World) (e : Event) → P w → P (happens s w e)
  pub halts : (w : World) (k : ℕ) (e : Event) → P w → P (halts_planned s w k (planned s w e))
  pub stop : (w : World) → P w → P (stops s w)

-- the same of a fact that need not hold of the opening world
pub record IsKeptOn (s : Setup) (P : World → Type 0) : Type 0 where
  pub idle : (w : World) (n : ℕ) → P w → P (record w { idle = n })
  pub round : (w : World) (n : ℕ) → P w → P (record w { rounds = n })
  pub event : (w : World) (e : Event) → P w → P (happens s w e)
  pub halts : (w : World) (k : ℕ) (e : Event) → P w → P (halts_planned s w k (planned s w e))
  pub stop : (w : World) → P w → P (stops s w)

pub kept_on : (s : Setup) (P : World → Type 0) → IsKeptByEvents s P → IsKeptOn s P
kept_on s P k = record { idle = k.idle; round = k.round; event = k.event; halts = k.halts; stop = k.stop }

abbrev Holds : (World → Type 0) → Ran → Type 0
Holds P r = P r.world

plan_done : (s : Setup) (P : World → Type 0) (k : IsKept s P) (w : World) (o : Option Planned) → HasShape s w o → P w → P (does_planned s w o)
plan_done s P k w None shape p = k.idle w (w.idle + 1) p
plan_done s P k w (Some q) shape p = k.does w q shape p

pub plan_halted : (s : Setup) (P : World → Type 0) (k : IsKept s P) (w : World) (n : ℕ) (o : Option Planned) → HasShape s w o → P w → P (halts_planned s w n o)
plan_halted s P k w n None shape p = k.idle w (w.idle + 1) p
plan_halted s P k w n (Some q) shape p = k.halts w n q shape p

pub event_done : (s : Setup) (P : World → Type 0) (k : IsKept s P) (w : World) (e : Event) → P w → P (happens s w e)
unfolding happens
event_done s P k w (event.Go c) p = on_if P (has_client s c) _ _ (k.goes w c _ p) (k.idle w (w.idle + 1) p)
event_done s P k w (event.Reconnect c) p = on_if P (has_client s c) _ _ (k.goes w c _ p) (k.idle w (w.idle + 1) p)
event_done s P k w (event.Get c) p = on_if P (has_client s c) _ _ (k.gets w c _ _ p) (k.idle w (w.idle + 1) p)
event_done s P k w e p = plan_done s P k w (planned s w e) (planned_shape s w e) p

ended : (l : Limits) (P : World → Type 0) (r : Ran) (w : World) (o : Option ℕ) → P r.world → P w → Holds P (ends_or r w o)
ended l P r w None p q = q
ended l P r w (Some n) p q = p

gone_on : (l : Limits) (P : World → Type 0) (r : Ran) (w : World) → P r.world → P w → Holds P (goes_on l r w)
gone_on l P r w p q = on_if (Holds P) (is_some r.ended) _ _ p (ended l P r w (l w) p q)

each_settled : (l : Limits) (s : Setup) (P : World → Type 0) (k : IsKeptOn s P) (r : Ran) (es : List Event) → P r.world → Holds P (all_settle l s r es)
each_settled l s P k r [] p = p
each_settled l s P k r (e ∷ es) p =
    each_settled l s P k (settles l s r e) es (gone_on l P r _ p (k.idle (happens s r.world e) r.world.idle (k.event r.world e p)))

rounds_done : (n : ℕ) (l : Limits) (s : Setup) (P : World → Type 0) (k : IsKeptOn s P) (r : Ran) → P r.world → Holds P (rounds_of n l s r)
rounds_done zero l s P k r p = p
rounds_done (suc n) l s P k r p =
    let r' : Ran = all_settle l s r (round_of (pairs s)) in
    let p' : P r'.world = each_settled l s P k r (round_of (pairs s)) p in
    on_elim (Holds P) (is_some r'.ended || (r'.world.events == r.world.events)) r' (rounds_of n l s (counting_round r')) p'
    (rounds_done n l s P k (counting_round r') (k.round r'.world (r'.world.rounds + 1) p'))

step_done : (l : Limits) (s : Setup) (P : World → Type 0) (k : IsKeptOn s P) (r : Ran) (e : Step) → P r.world → Holds P (steps l s r e)
unfolding steps settled_world
step_done l s P k r (step.Plain e) p = gone_on l P r _ p (k.event r.world e p)
step_done l s P k r (step.Halt n e) p = gone_on l P r _ p (k.halts r.world n e p)
step_done l s P k r step.Settle p =
    rounds_done (budget s r.world + 1) l s P k (all_settle l s r (resets_of (pairs s))) (each_settled l s P k r (resets_of (pairs s)) p)
step_done l s P k r step.Stop p = gone_on l P r _ p (k.stop r.world p)

steps_done : (l : Limits) (s : Setup) (P : World → Type 0) (k : IsKeptOn s P) (r : Ran) (es : List Step) → P r.world → Holds P (run_from l s r es)
steps_done l s P k r [] p = p
steps_done l s P k r (e ∷ es) p = steps_done l s P k (steps l s r e) es (step_done l s P k r e p)

-- what its parts keep, events keep
pub by_events : (s : Setup) (P : World → Type 0) → IsKept s P → IsKeptByEvents s P
by_events s P k = record {
  opening = k.opening;
  idle = k.idle;
  round = k.round;
  event = λ w e p. event_done s P k w e p;
  halts = λ w n e p. plan_halted s P k w n (planned s w e) (planned_shape s w e) p;
  stop = k.stop;
}

-- so it holds at the end of every run, under whatever limits
run_done : (l : Limits) (s : Setup) (P : World → Type 0) → IsKeptByEvents s P → (es : List Step) → P (run_under l s es).world
run_done l s P k es = steps_done l s P (kept_on s P k) (record { world = opening_world s; ended = None }) es k.opening

settling_done : (l : Limits) (s : Setup) (P : World → Type 0) (k : IsKeptOn s P) (r : Ran) (at : Settling) → P r.world → Holds P (settling_so_far l s r at)
settling_done l s P k r NotBegun p = p
settling_done l s P k r (Resetting n) p = each_settled l s P k r (take n (resets_of (pairs s))) p
settling_done l s P k r (InRound m n) p =
    each_settled l s P k _ (take n (round_of (pairs s)))
    (rounds_done m l s P k (all_settle l s r (resets_of (pairs s))) (each_settled l s P k r (resets_of (pairs s)) p))

-- and between any two events of it
done_between : (l : Limits) (s : Setup) (P : World → Type 0) → IsKeptByEvents s P → (es : List Step) (at : Settling) → P (world_between l s es at)
done_between l s P k es at = settling_done l s P (kept_on s P k) (run_under l s es) at (run_done l s P k es)

-- the same of runs that start elsewhere
pub run_on : (l : Limits) (s : Setup) (P : World → Type 0) → IsKeptOn s P → (v : World) → P v → (es : List Step) → P (run_from l s (begun v) es).world
run_on l s P k v p es = steps_done l s P k (begun v) es p

pub between_on : (l : Limits) (s : Setup) (P : World → Type 0) → IsKeptOn s P → (v : World) → P v → (es : List Step) (at : Settling) → P (settling_so_far l s (run_from l s (begun v) es) at).world
between_on l s P k v p es at = settling_done l s P k (run_from l s (begun v) es) at (run_on l s P k v p es)

-- what then holds of a world in the midst of the writes of any event holds at every moment
moment_done : (l : Limits) (s : Setup) (P Q : World → Type 0) → IsKeptByEvents s P → ((w : World) → P w → Q w)
    → ((w : World) (n : ℕ) (p : Planned) → Shape s w p → P w → Q (partly_written s w n (Some p))) → (m : Moment) → Q (world_at l s m)
moment_done l s P Q k weaker written m = go (planned s w m.event) (planned_shape s w m.event)
  where
    w : World
    w = world_between l s m.steps m.settling

    p : P w
    p = done_between l s P k m.steps m.settling

    go : (o : Option Planned) → HasShape s w o → Q (partly_written s w m.writes o)
    go None shape = weaker w p
    go (Some q) shape = written w m.writes q shape p

-- and so it does always
pub always_by_events : (s : Setup) (P Q : World → Type 0) → IsKeptByEvents s P → ((w : World) → P w → Q w)
    → ((w : World) (n : ℕ) (p : Planned) → Shape s w p → P w → Q (partly_written s w n (Some p))) → Always s (λ w settled. Q w)
always_by_events s P Q k weaker written = record {
  run = λ es. weaker (run s es) (run_done no_limits s P k es);
  limited = λ l es. weaker (run_under l s es).world (run_done l s P k es);
  between = λ l es at. weaker (world_between l s es at) (done_between l s P k es at);
  moment = λ l m. moment_done l s P Q k weaker written m;
}

-- the same of what the parts keep
pub all_settled : (l : Limits) (s : Setup) (P : World → Type 0) (k : IsKept s P) (r : Ran) (es : List Event) → P r.world → Holds P (all_settle l s r es)
all_settled l s P k r es p = each_settled l s P (kept_on s P (by_events s P k)) r es p

pub in_run : (l : Limits) (s : Setup) (P : World → Type 0) → IsKept s P → (es : List Step) → P (run_under l s es).world
in_run l s P k es = run_done l s P (by_events s P k) es

pub between : (l : Limits) (s : Setup) (P : World → Type 0) → IsKept s P → (es : List Step) (at : Settling) → P (world_between l s es at)
between l s P k es at = done_between l s P (by_events s P k) es at

pub at_moment : (l : Limits) (s : Setup) (P Q : World → Type 0) → IsKept s P → ((w : World) → P w → Q w)
    → ((w : World) (n : ℕ) (p : Planned) → Shape s w p → P w → Q (partly_written s w n (Some p))) → (m : Moment) → Q (world_at l s m)
at_moment l s P Q k weaker written m = moment_done l s P Q (by_events s P k) weaker written m

pub always : (s : Setup) (P Q : World → Type 0) → IsKept s P → ((w : World) → P w → Q w)
    → ((w : World) (n : ℕ) (p : Planned) → Shape s w p → P w → Q (partly_written s w n (Some p))) → Always s (λ w settled. Q w)
always s P Q k weaker written = always_by_events s P Q (by_events s P k) weaker written

pub between_events : (s : Setup) (P Q : World → Type 0) → IsKept s P → ((w : World) → P w → Q w) → BetweenEvents s Q
between_events s P Q k weaker = record {
  run = λ es. weaker (run s es) (in_run no_limits s P k es);
  limited = λ l es. weaker (run_under l s es).world (in_run l s P k es);
  between = λ l es at. weaker (world_between l s es at) (between l s P k es at);
}

-- the same of what whole events keep
pub between_by_events : (s : Setup) (P Q : World → Type 0) → IsKeptByEvents s P → ((w : World) → P w → Q w) → BetweenEvents s Q
between_by_events s P Q k weaker = record {
  run = λ es. weaker (run s es) (run_done no_limits s P k es);
  limited = λ l es. weaker (run_under l s es).world (run_done l s P k es);
  between = λ l es at. weaker (world_between l s es at) (done_between l s P k es at);
}

-- what holds always holds always in each run
pub always_in : (s : Setup) (es : List Step) (Holds : World → SettledSoFar → Type 0) → Always s Holds → AlwaysIn s es Holds
always_in s es Holds a = record {
  between = λ k at. a.between no_limits (take k es) at;
  moment = λ k at e writes. a.moment no_limits (record { steps = take k es; settling = at; event = e; writes = writes });
}
