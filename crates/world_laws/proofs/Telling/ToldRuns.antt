-- The induction over runs that carries what is settled so far, by the parts of an event: each step first settles what it settles, and then
-- happens. What the opening world has with nothing told, and every event keeps, holds at every moment with what is settled by then.
use Rattle.std.proofs.Common.{◌≡◌, ℕ, zero, suc, ◌+◌, Bool, true, false, List, [], ◌∷◌, ◌++◌, refl, sym, ap, subst, ◌∙◌, arith}
use Rattle.std.specs.Prelude.{Option, Some, None, if◌then◌else◌, is_some, nat_lt, take}
use Rattle.std.proofs.lemmas.Bool.{false≢true, lt-ltb}
use Rattle.world_laws.proofs.Types.{Event, Ident, Step}
use Rattle.world_laws.proofs.Types.event
use Rattle.world_laws.proofs.Types.step
use Rattle.geo_base.specs.Happening.{does_planned, happens, halts_planned}
use Rattle.geo_base.specs.Laws.{Always}
use Rattle.geo_base.specs.Moments.{partly_written, world_at, world_between}
use Rattle.geo_base.specs.Planned.{Planned, has_client, planned}
use Rattle.geo_base.specs.Run.{Limits, Pair, Ran, no_limits, resets_of, round_of, run, run_under, steps}
use Rattle.geo_base.specs.Settled.{SettledSoFar, settled_behind, settled_event, settled_from, settled_step, settled_under}
use Rattle.geo_base.specs.Setup.{Setup}
use Rattle.geo_base.specs.World.{World, opening_world}
use Rattle.world_laws.specs.Telling.{AlwaysTold, settling, told_from, told_step, told_under}
use Rattle.world_laws.proofs.Replicating.Effects.{Each}
use Rattle.world_laws.proofs.Walks.EventWalk.{HasShape, planned_shape}
use Rattle.world_laws.proofs.Telling.OnlyTold.{first_included, tells_take}
use Rattle.world_laws.proofs.Telling.QuietTells.{settles_none}
use Rattle.world_laws.proofs.Walks.Shapes.{Shape}
use Rattle.world_laws.proofs.Telling.TellingRuns.{AfterStep, IsKeptTelling, IsOfSettling, after_writes}
use Rattle.world_laws.proofs.Telling.TellingRuns.{always_told as always_telling, step_done as step_told}
use Rattle.world_laws.proofs.Telling.Told.{IsToldKept, TellsAll, TellsAt, told_too}
use Rattle.world_laws.proofs.Walks.Walk.{on_if}

-- WHAT EVENTS SETTLE

-- any event but a packet of a client and a seek settles nothing
pub none_settled : (s : Setup) (w : World) (t : ℕ) (n : List ℕ) (e : Event) → settles_none e ≡ true → settled_event s w t n e ≡ []
unfolding settled_event
none_settled s w t n (event.Serve x c) h = absurd (false≢true h)
none_settled s w t n (event.Seek u x m to) h = absurd (false≢true h)
none_settled s w t n e h = refl

-- the events of settling are such
pub resets_none : (ps : List Pair) → Each (λ e. settles_none e ≡ true) (resets_of ps)
resets_none [] = tt
resets_none (p ∷ ps) = (refl, resets_none ps)

pub rounds_none : (ps : List Pair) → Each (λ e. settles_none e ≡ true) (round_of ps)
rounds_none [] = tt
rounds_none (p ∷ ps) = (refl, (refl, (refl, rounds_none ps)))

-- after so many writes
abbrev Behind : Setup → SettledSoFar → World → ℕ → Event → SettledSoFar
Behind s told w k e = told_too told (λ t n. settled_behind k s w t n e)

abbrev pub TellsSome : Setup → World → SettledSoFar → ℕ → Option Planned → Type 0
TellsSome s w told k None = Unit {0}
TellsSome s w told k (Some p) = TellsAt s w told p (take k p.plan.writes)

pub begins_told : (s : Setup) (w : World) (told : SettledSoFar) (k : ℕ) (o : Option Planned) → TellsAll s w told o → TellsSome s w told k o
begins_told s w told k None h = tt
begins_told s w told k (Some p) h = λ short there. tells_take told p.topic s.per_ledger k _ p.plan.writes (h short there)

none_told : (s : Setup) (w : World) (told : SettledSoFar) (k : ℕ) (o : Option Planned) → nat_lt 0 k ≡ false → TellsSome s w told k o
none_told s w told k None h = tt
none_told s w told zero (Some p) h = λ short there. tt
none_told s w told (suc k) (Some p) h = absurd (false≢true (sym h ∙ lt-ltb 0 (suc k) (omega arith)))

-- what a plan gains with something told, its first writes gain, which tell as much once there is one
pub some_told : (s : Setup) (w : World) (told new : SettledSoFar) (k : ℕ) (o : Option Planned) → TellsAll s w (told_too told new) o
    → TellsSome s w (told_too told (λ t n. if nat_lt 0 k then new t n else [])) k o
some_told s w told new k o h = by (nat_lt 0 k) refl
  where
    by : (b : Bool) → nat_lt 0 k ≡ b → TellsSome s w (told_too told (λ t n. if b then new t n else [])) k o
    by true is = begins_told s w (told_too told new) k o h
    by false is = none_told s w (told_too told (λ t n. [])) k o is

behind_tells : (s : Setup) (P : SettledSoFar → World → Type 0) (k : IsToldKept s P) (told : SettledSoFar) (w : World) (m : ℕ) (e : Event) → P told w
    → TellsSome s w (Behind s told w m e) m (planned s w e)
behind_tells s P k told w m e p = some_told s w told (λ t n. settled_event s w t n e) m (planned s w e) (k.tells told w e p)

-- EVENTS

with_more : (s : Setup) (P : SettledSoFar → World → Type 0) (k : IsToldKept s P) (told new : SettledSoFar) (w : World) → P told w → P (told_too told new) w
with_more s P k told new w p = k.more told (told_too told new) w (first_included told new) p

plan_done : (s : Setup) (P : SettledSoFar → World → Type 0) (k : IsToldKept s P) (told : SettledSoFar) (w : World) (o : Option Planned) → HasShape s w o → TellsAll s w told o
    → P told w → P told (does_planned s w o)
plan_done s P k told w None shape tells p = k.idle told w (w.idle + 1) p
plan_done s P k told w (Some q) shape tells p = k.does told w q shape tells p

pub plan_halted : (s : Setup) (P : SettledSoFar → World → Type 0) (k : IsToldKept s P) (told : SettledSoFar) (w : World) (n : ℕ) (o : Option Planned) → HasShape s w o
    → TellsSome s w told n o → P told w → P told (halts_planned s w n o)
plan_halted s P k told w n None shape tells p = k.idle told w (w.idle + 1) p
plan_halted s P k told w n (Some q) shape tells p = k.halts told w n q shape tells p

-- an event of which all is told that its writes gain, whatever tells it
pub event_kept : (s : Setup) (P : SettledSoFar → World → Type 0) (k : IsToldKept s P) (told : SettledSoFar) (w : World) (e : Event) → TellsAll s w told (planned s w e) → P told w
    → P told (happens s w e)
unfolding happens
event_kept s P k told w (event.Go c) tells p = on_if (P told) (has_client s c) _ _ (k.goes told w c _ p) (k.idle told w (w.idle + 1) p)
event_kept s P k told w (event.Reconnect c) tells p = on_if (P told) (has_client s c) _ _ (k.goes told w c _ p) (k.idle told w (w.idle + 1) p)
event_kept s P k told w (event.Get c) tells p = on_if (P told) (has_client s c) _ _ (k.gets told w c _ _ p) (k.idle told w (w.idle + 1) p)
event_kept s P k told w e tells p = plan_done s P k told w (planned s w e) (planned_shape s w e) tells p

event_done : (s : Setup) (P : SettledSoFar → World → Type 0) (k : IsToldKept s P) (told : SettledSoFar) (w : World) (e : Event) → P told w
    → P (told_too told (λ t n. settled_event s w t n e)) (happens s w e)
event_done s P k told w e p =
    event_kept s P k (told_too told (λ t n. settled_event s w t n e)) w e (k.tells told w e p) (with_more s P k told (λ t n. settled_event s w t n e) w p)

halt_done : (s : Setup) (P : SettledSoFar → World → Type 0) (k : IsToldKept s P) (told : SettledSoFar) (w : World) (n : ℕ) (e : Event) → P told w
    → P (Behind s told w n e) (halts_planned s w n (planned s w e))
halt_done s P k told w n e p =
    plan_halted s P k (Behind s told w n e) w n (planned s w e) (planned_shape s w e) (behind_tells s P k told w n e p)
    (with_more s P k told (λ t m. settled_behind n s w t m e) w p)

-- so every event keeps it
of_settling : (s : Setup) (w : World) (t : ℕ) (n : List ℕ) (e : Event) → IsOfSettling e → settled_event s w t n e ≡ []
of_settling s w t n (event.Reset u x y) h = none_settled s w t n (event.Reset u x y) refl
of_settling s w t n (event.Take u x y f) h = none_settled s w t n (event.Take u x y f) refl
of_settling s w t n (event.Receipt u x y f) h = none_settled s w t n (event.Receipt u x y f) refl
of_settling s w t n (event.Read u x y) h = none_settled s w t n (event.Read u x y) refl
of_settling s w t n e h = absurd h

pub kept_telling : (s : Setup) (P : SettledSoFar → World → Type 0) → IsToldKept s P → IsKeptTelling (settling s) s P
kept_telling s P k = record {
  more = k.more;
  event = λ told w e p. event_done s P k told w e p;
  halts = λ told w n e p. halt_done s P k told w n e p;
  stop = k.stop;
  idle = k.idle;
  round = k.round;
  quiet = of_settling s;
}

-- RUNS

pub step_done : (l : Limits) (s : Setup) (P : SettledSoFar → World → Type 0) (k : IsToldKept s P) (told : SettledSoFar) (r : Ran) (e : Step) → P told r.world
    → AfterStep P told (λ t n. settled_step s r.world t n e) (steps l s r e)
step_done l s P k told r (step.Plain e) p = step_told (settling s) l s P (kept_telling s P k) told r (step.Plain e) p
step_done l s P k told r (step.Halt n e) p = step_told (settling s) l s P (kept_telling s P k) told r (step.Halt n e) p
step_done l s P k told r step.Settle p = step_told (settling s) l s P (kept_telling s P k) told r step.Settle p
step_done l s P k told r step.Stop p = step_told (settling s) l s P (kept_telling s P k) told r step.Stop p

-- what is settled is told so
step_is : (s : Setup) (w : World) (t : ℕ) (n : List ℕ) (e : Step) → told_step (settling s) w t n e ≡ settled_step s w t n e
step_is s w t n (step.Plain e) = refl
step_is s w t n (step.Halt k e) = refl
step_is s w t n step.Settle = refl
step_is s w t n step.Stop = refl

from_is : (l : Limits) (s : Setup) (r : Ran) (es : List Step) (t : ℕ) (n : List ℕ) → told_from (settling s) l s r es t n ≡ settled_from l s r es t n
from_is l s r [] t n = refl
from_is l s r (e ∷ es) t n =
    let r' : Ran = steps l s r e in
    ap (λ (is : List Ident). (if is_some r'.ended then [] else is) ++ told_from (settling s) l s r' es t n) (step_is s r.world t n e)
    ∙ ap (λ (is : List Ident). (if is_some r'.ended then [] else settled_step s r.world t n e) ++ is) (from_is l s r' es t n)

settled_is : (l : Limits) (s : Setup) (es : List Step) → told_under (settling s) l s es ≡ settled_under l s es
unfolding settled_under
settled_is l s es = λ i t n. from_is l s (record { world = opening_world s; ended = None }) es t n i

always_settled : (s : Setup) (Q : World → SettledSoFar → Type 0) → AlwaysTold (settling s) s Q → Always s Q
always_settled s Q a = record {
  run = λ es. subst (Q (run s es)) (settled_is no_limits s es) (a.run es);
  limited = λ l es. subst (Q (run_under l s es).world) (settled_is l s es) (a.limited l es);
  between = λ l es at. subst (Q (world_between l s es at)) (settled_is l s es) (a.between l es at);
  moment = λ l m. subst (λ (told : SettledSoFar). Q (world_at l s m) (after_writes (settling s) told (world_between l s m.steps m.settling) m.writes m.event)) (settled_is l s m.steps) (a.moment l m);
}

-- so it holds between any two events, and what then holds in the midst of the writes of any event, always
pub always_told : (s : Setup) (P : SettledSoFar → World → Type 0) (Q : World → SettledSoFar → Type 0) → IsToldKept s P → ((told : SettledSoFar) (w : World) → P told w → Q w told)
    → ((told : SettledSoFar) (w : World) (n : ℕ) (p : Planned) → Shape s w p → TellsAt s w told p (take n p.plan.writes) → P told w → Q (partly_written s w n (Some p)) told)
    → Always s Q
always_told s P Q k weaker written = always_settled s Q (always_telling (settling s) s P Q (kept_telling s P k) k.opening weaker in_midst)
  where
    in_midst : (told : SettledSoFar) (w : World) (n : ℕ) (e : Event) → P told w → Q (partly_written s w n (planned s w e)) (Behind s told w n e)
    in_midst told w n e p = by (planned s w e) (planned_shape s w e) (behind_tells s P k told w n e p) (with_more s P k told (λ t m. settled_behind n s w t m e) w p)
      where
        now : SettledSoFar
        now = Behind s told w n e

        by : (o : Option Planned) → HasShape s w o → TellsSome s w now n o → P now w → Q (partly_written s w n o) now
        by None shape tells q = weaker now w q
        by (Some p) shape tells q = written now w n p shape tells q
