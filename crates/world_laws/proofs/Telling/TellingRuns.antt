-- The induction over runs that carries what is told so far, once for all that events tell: each event first tells what it tells, and then
-- happens. What a world has with something told, and every event keeps, holds at every moment of a run from there, with what is told by
-- then.
use Rattle.std.proofs.Common.{◌≡◌, ℕ, zero, suc, ◌+◌, List, [], ◌∷◌, ◌++◌, true, subst, ◌==◌}
use Rattle.std.specs.Prelude.{Option, Some, None, if◌then◌else◌, ◌||◌, is_some, take}
use Rattle.std.specs.List.{list_any}
use Rattle.std.proofs.lemmas.List.{append-nil, append_assoc}
use Rattle.world_laws.proofs.Types.{Event, Ident, Step}
use Rattle.world_laws.proofs.Types.event
use Rattle.world_laws.proofs.Types.step
use Rattle.geo_base.specs.Entry.{same_ident}
use Rattle.geo_base.specs.Happening.{happens, halts_planned, stops}
use Rattle.geo_base.specs.Moments.{Settling, InRound, NotBegun, Resetting, partly_written, settling_so_far, world_between}
use Rattle.geo_base.specs.Planned.{planned}
use Rattle.geo_base.specs.Run.{Limits, Pair, Ran, all_settle, budget, counting_round, ends_or, goes_on, no_limits, pairs, resets_of, round_of, rounds_of, run, run_from, run_under, settled_world, settles, steps}
use Rattle.geo_base.specs.Settled.{SettledSoFar}
use Rattle.geo_base.specs.Setup.{Setup}
use Rattle.geo_base.specs.World.{World, opening_world}
use Rattle.world_laws.specs.Telling.{AlwaysTold, AlwaysToldIn, BetweenTold, BetweenToldIn, Telling, told_from, told_step, told_under}
use Rattle.world_laws.proofs.Replicating.Effects.{Each, each_take}
use Rattle.world_laws.proofs.Telling.OnlyTold.{first_included}
use Rattle.world_laws.proofs.Telling.Told.{Includes, nothing_told, told_too}
use Rattle.world_laws.proofs.Walks.Walk.{on_elim, on_if}

-- what is told after an event, and after the first of its writes
abbrev pub after_event : Telling → SettledSoFar → World → Event → SettledSoFar
after_event tells told w e = told_too told (λ t n. tells.event w t n e)

abbrev pub after_writes : Telling → SettledSoFar → World → ℕ → Event → SettledSoFar
after_writes tells told w k e = told_too told (λ t n. tells.behind k w t n e)

-- the events of settling
abbrev pub IsOfSettling : Event → Type 0
IsOfSettling (event.Reset t x y) = Unit {0}
IsOfSettling (event.Take t x y f) = Unit {0}
IsOfSettling (event.Receipt t x y f) = Unit {0}
IsOfSettling (event.Read t x y) = Unit {0}
IsOfSettling e = ⊥

-- A fact of what is told and of worlds that every event keeps; settling tells nothing
pub record IsKeptTelling (tells : Telling) (s : Setup) (P : SettledSoFar → World → Type 0) : Type 0 where
  pub more : (told more : SettledSoFar) (w : World) → Includes told more → P told w → P more w
  pub event : (told : SettledSoFar) (w : World) (e : Event) → P told w → P (after_event tells told w e) (happens s w e)
  pub halts : (told : SettledSoFar) (w : World) (k : ℕ) (e : Event) → P told w → P (after_writes tells told w k e) (halts_planned s w k (planned s w e))
  pub stop : (told : SettledSoFar) (w : World) → P told w → P told (stops s w)
  pub idle : (told : SettledSoFar) (w : World) (n : ℕ) → P told w → P told (record w { idle = n })
  pub round : (told : SettledSoFar) (w : World) (n : ℕ) → P told w → P told (record w { rounds = n })
  pub quiet : (w : World) (t : ℕ) (n : List ℕ) (e : Event) → IsOfSettling e → tells.event w t n e ≡ []

-- SETTLING

resets_quiet : (ps : List Pair) → Each IsOfSettling (resets_of ps)
resets_quiet [] = tt
resets_quiet (p ∷ ps) = (tt, resets_quiet ps)

rounds_quiet : (ps : List Pair) → Each IsOfSettling (round_of ps)
rounds_quiet [] = tt
rounds_quiet (p ∷ ps) = (tt, (tt, (tt, rounds_quiet ps)))

-- what tells nothing adds nothing
nothing_more : (tells : Telling) (s : Setup) (P : SettledSoFar → World → Type 0) → IsKeptTelling tells s P → (told : SettledSoFar) (w : World) (e : Event) → IsOfSettling e
    → Includes (after_event tells told w e) told
nothing_more tells s P k told w e none t n x h =
    let R : List Ident → Type 0 = λ l. list_any (same_ident x.ident) l ≡ true in
    subst R (append-nil (told t n)) (subst (λ (l : List Ident). R (told t n ++ l)) (k.quiet w t n e none) h)

abbrev Holds : (World → Type 0) → Ran → Type 0
Holds Q r = Q r.world

ended : (Q : World → Type 0) (r : Ran) (w : World) (o : Option ℕ) → Q r.world → Q w → Holds Q (ends_or r w o)
ended Q r w None p q = q
ended Q r w (Some n) p q = p

gone_on : (l : Limits) (Q : World → Type 0) (r : Ran) (w : World) → Q r.world → Q w → Holds Q (goes_on l r w)
gone_on l Q r w p q = on_if (Holds Q) (is_some r.ended) _ _ p (ended Q r w (l w) p q)

all_settled : (tells : Telling) (l : Limits) (s : Setup) (P : SettledSoFar → World → Type 0) → IsKeptTelling tells s P → (told : SettledSoFar) (r : Ran) (es : List Event)
    → Each IsOfSettling es → P told r.world → Holds (P told) (all_settle l s r es)
all_settled tells l s P k told r [] none p = p
all_settled tells l s P k told r (e ∷ es) none p =
    let w = r.world in
    let after = k.more (after_event tells told w e) told (happens s w e) (nothing_more tells s P k told w e none.0) (k.event told w e p) in
    all_settled tells l s P k told (settles l s r e) es none.1 (gone_on l (P told) r _ p (k.idle told (happens s w e) w.idle after))

rounds_done : (m : ℕ) (tells : Telling) (l : Limits) (s : Setup) (P : SettledSoFar → World → Type 0) → IsKeptTelling tells s P → (told : SettledSoFar) (r : Ran) → P told r.world
    → Holds (P told) (rounds_of m l s r)
rounds_done zero tells l s P k told r p = p
rounds_done (suc m) tells l s P k told r p =
    let r' : Ran = all_settle l s r (round_of (pairs s)) in
    let p' : P told r'.world = all_settled tells l s P k told r (round_of (pairs s)) (rounds_quiet (pairs s)) p in
    on_elim (Holds (P told)) (is_some r'.ended || (r'.world.events == r.world.events)) r' (rounds_of m l s (counting_round r')) p'
    (rounds_done m tells l s P k told (counting_round r') (k.round told r'.world (r'.world.rounds + 1) p'))

resets_done : (tells : Telling) (l : Limits) (s : Setup) (P : SettledSoFar → World → Type 0) → IsKeptTelling tells s P → (told : SettledSoFar) (r : Ran) → P told r.world
    → Holds (P told) (all_settle l s r (resets_of (pairs s)))
resets_done tells l s P k told r p = all_settled tells l s P k told r (resets_of (pairs s)) (resets_quiet (pairs s)) p

settling_done : (tells : Telling) (l : Limits) (s : Setup) (P : SettledSoFar → World → Type 0) → IsKeptTelling tells s P → (told : SettledSoFar) (r : Ran) (at : Settling) → P told r.world
    → Holds (P told) (settling_so_far l s r at)
settling_done tells l s P k told r NotBegun p = p
settling_done tells l s P k told r (Resetting n) p =
    all_settled tells l s P k told r (take n (resets_of (pairs s))) (each_take IsOfSettling n (resets_of (pairs s)) (resets_quiet (pairs s))) p
settling_done tells l s P k told r (InRound m n) p =
    all_settled tells l s P k told _ (take n (round_of (pairs s))) (each_take IsOfSettling n (round_of (pairs s)) (rounds_quiet (pairs s)))
    (rounds_done m tells l s P k told (all_settle l s r (resets_of (pairs s))) (resets_done tells l s P k told r p))

-- STEPS

-- a step that passes a limit is not done and tells nothing
abbrev pub AfterStep : (SettledSoFar → World → Type 0) → SettledSoFar → SettledSoFar → Ran → Type 0
AfterStep P told new r = P (told_too told (λ t n. if is_some r.ended then [] else new t n)) r.world

with_more : (tells : Telling) (s : Setup) (P : SettledSoFar → World → Type 0) → IsKeptTelling tells s P → (told new : SettledSoFar) (w : World) → P told w → P (told_too told new) w
with_more tells s P k told new w p = k.more told (told_too told new) w (first_included told new) p

step_ended : (tells : Telling) (s : Setup) (P : SettledSoFar → World → Type 0) → IsKeptTelling tells s P → (told new : SettledSoFar) (r : Ran) (w : World) (o : Option ℕ) → P told r.world
    → P (told_too told new) w → AfterStep P told new (ends_or r w o)
step_ended tells s P k told new r w None p q = q
step_ended tells s P k told new r w (Some n) p q = with_more tells s P k told (λ t n. []) r.world p

step_gone : (tells : Telling) (l : Limits) (s : Setup) (P : SettledSoFar → World → Type 0) → IsKeptTelling tells s P → (told new : SettledSoFar) (r : Ran) (w : World) → P told r.world
    → P (told_too told new) w → AfterStep P told new (goes_on l r w)
step_gone tells l s P k told new r w p q =
    on_if (AfterStep P told new) (is_some r.ended) _ _ (with_more tells s P k told (λ t n. if is_some r.ended then [] else new t n) r.world p)
    (step_ended tells s P k told new r w (l w) p q)

pub step_done : (tells : Telling) (l : Limits) (s : Setup) (P : SettledSoFar → World → Type 0) → IsKeptTelling tells s P → (told : SettledSoFar) (r : Ran) (e : Step) → P told r.world
    → AfterStep P told (λ t n. told_step tells r.world t n e) (steps l s r e)
unfolding steps settled_world
step_done tells l s P k told r (step.Plain e) p = step_gone tells l s P k told (λ t n. tells.event r.world t n e) r _ p (k.event told r.world e p)
step_done tells l s P k told r (step.Halt n e) p = step_gone tells l s P k told (λ t m. tells.behind n r.world t m e) r _ p (k.halts told r.world n e p)
step_done tells l s P k told r step.Settle p =
    let r' : Ran = settled_world l s r in
    with_more tells s P k told (λ t n. if is_some r'.ended then [] else []) r'.world
    (rounds_done (budget s r.world + 1) tells l s P k told (all_settle l s r (resets_of (pairs s))) (resets_done tells l s P k told r p))
step_done tells l s P k told r step.Stop p = step_gone tells l s P k told (λ t n. []) r _ p (with_more tells s P k told (λ t n. []) _ (k.stop told r.world p))

-- what is told by and by is told at once
told_in_a_row : (told first rest : SettledSoFar) → Includes (told_too (told_too told first) rest) (told_too told (λ t n. first t n ++ rest t n))
told_in_a_row told first rest t n e h =
    subst (λ (l : List Ident). list_any (same_ident e.ident) l ≡ true) (append_assoc (told t n) (first t n) (rest t n)) h

pub steps_done : (tells : Telling) (l : Limits) (s : Setup) (P : SettledSoFar → World → Type 0) → IsKeptTelling tells s P → (told : SettledSoFar) (r : Ran) (es : List Step) → P told r.world
    → P (told_too told (told_from tells l s r es)) (run_from l s r es).world
steps_done tells l s P k told r [] p = with_more tells s P k told (λ t n. []) r.world p
steps_done tells l s P k told r (e ∷ es) p =
    let r' : Ran = steps l s r e in
    let first : SettledSoFar = λ t n. if is_some r'.ended then [] else told_step tells r.world t n e in
    let rest : SettledSoFar = told_from tells l s r' es in
    k.more (told_too (told_too told first) rest) (told_too told (λ t n. first t n ++ rest t n)) (run_from l s r' es).world (told_in_a_row told first rest)
    (steps_done tells l s P k (told_too told first) r' es (step_done tells l s P k told r e p))

-- between any two events of a run from somewhere
pub told_between : (tells : Telling) (l : Limits) (s : Setup) (P : SettledSoFar → World → Type 0) → IsKeptTelling tells s P → (told : SettledSoFar) (r : Ran) → P told r.world
    → (es : List Step) (at : Settling) → P (told_too told (told_from tells l s r es)) (settling_so_far l s (run_from l s r es) at).world
told_between tells l s P k told r p es at =
    settling_done tells l s P k (told_too told (told_from tells l s r es)) (run_from l s r es) at (steps_done tells l s P k told r es p)

-- at the end of every run of a setup, and between any two events of it
pub in_run : (tells : Telling) (l : Limits) (s : Setup) (P : SettledSoFar → World → Type 0) → IsKeptTelling tells s P → P nothing_told (opening_world s) → (es : List Step)
    → P (told_under tells l s es) (run_under l s es).world
in_run tells l s P k opening es = steps_done tells l s P k nothing_told (record { world = opening_world s; ended = None }) es opening

pub between : (tells : Telling) (l : Limits) (s : Setup) (P : SettledSoFar → World → Type 0) → IsKeptTelling tells s P → P nothing_told (opening_world s) → (es : List Step) (at : Settling)
    → P (told_under tells l s es) (world_between l s es at)
between tells l s P k opening es at = told_between tells l s P k nothing_told (record { world = opening_world s; ended = None }) opening es at

-- WHAT THEN HOLDS

pub between_told : (tells : Telling) (s : Setup) (P : SettledSoFar → World → Type 0) (Q : World → SettledSoFar → Type 0) → IsKeptTelling tells s P → P nothing_told (opening_world s)
    → ((told : SettledSoFar) (w : World) → P told w → Q w told) → BetweenTold tells s Q
between_told tells s P Q k opening weaker = record {
  run = λ es. weaker (told_under tells no_limits s es) (run s es) (in_run tells no_limits s P k opening es);
  limited = λ l es. weaker (told_under tells l s es) (run_under l s es).world (in_run tells l s P k opening es);
  between = λ l es at. weaker (told_under tells l s es) (world_between l s es at) (between tells l s P k opening es at);
}

-- and in the midst of the writes of any event, always
pub always_told : (tells : Telling) (s : Setup) (P : SettledSoFar → World → Type 0) (Q : World → SettledSoFar → Type 0) → IsKeptTelling tells s P → P nothing_told (opening_world s)
    → ((told : SettledSoFar) (w : World) → P told w → Q w told)
    → ((told : SettledSoFar) (w : World) (k : ℕ) (e : Event) → P told w → Q (partly_written s w k (planned s w e)) (after_writes tells told w k e)) → AlwaysTold tells s Q
always_told tells s P Q k opening weaker written = record {
  run = λ es. weaker (told_under tells no_limits s es) (run s es) (in_run tells no_limits s P k opening es);
  limited = λ l es. weaker (told_under tells l s es) (run_under l s es).world (in_run tells l s P k opening es);
  between = λ l es at. weaker (told_under tells l s es) (world_between l s es at) (between tells l s P k opening es at);
  moment = λ l m. written (told_under tells l s m.steps) (world_between l s m.steps m.settling) m.writes m.event (between tells l s P k opening m.steps m.settling);
}

-- so it holds always in one run
pub always_told_in : (tells : Telling) (s : Setup) (es : List Step) (Q : World → SettledSoFar → Type 0) → AlwaysTold tells s Q → AlwaysToldIn tells s es Q
always_told_in tells s es Q a = record {
  between = λ k at. a.between no_limits (take k es) at;
  moment = λ k at e writes. a.moment no_limits (record { steps = take k es; settling = at; event = e; writes = writes });
}

pub between_told_in : (tells : Telling) (s : Setup) (es : List Step) (Q : World → SettledSoFar → Type 0) → BetweenTold tells s Q → BetweenToldIn tells s es Q
between_told_in tells s es Q b = record { between = λ k at. b.between no_limits (take k es) at }
