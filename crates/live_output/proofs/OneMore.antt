-- What one more step makes of a run that is done step by step.
use Rattle.std.proofs.Common.{◌≡◌, ℕ, ◌+◌, ◌<◌, ◌≤◌, Bool, true, false, List, [], ◌∷◌, ◌++◌, drop, length, refl, sym, ap, subst, ◌∙◌}
use Rattle.std.proofs.lemmas.List.{drop_all, drop_more}
use Rattle.std.proofs.lemmas.List.Elements.{All-get_or, All-nil, All-push, All-same}
use Rattle.std.specs.Prelude.{All, Option, Some, None, Result, Ok, Err, IfOk, OnOk, is_some, not, if◌then◌else◌, slice_index_or}
use Rattle.geo_base.specs.declared.event.Event.{Event}
use Rattle.geo_base.specs.declared.event.Step.{Step}
use Rattle.geo_base.specs.declared.event.Step.TheVariants as step
use Rattle.geo_base.specs.declared.memory.Memory.{Memory}
use Rattle.geo_base.specs.Happening.{happens}
use Rattle.geo_base.specs.Run.{Ran, all_limits, ends_or, run, run_from, run_under, steps}
use Rattle.geo_base.specs.Setup.{Setup}
use Rattle.geo_base.specs.World.{World, opening_world}
use Rattle.script_text.specs.Scenario.{IsStep}
use Rattle.script_text.specs.Script.{Script}
use Rattle.world.specs.declared.fault.RunFault.{RunFault}
use Rattle.world.specs.declared.fault.RunFault.TheVariants as fault
use Rattle.world.specs.Runs.{Comes, at_world}
use Rattle.world.specs.World.{IsAt, WorldView, kept_of}
use Rattle.world.proofs.ManySteps.{reaches}
use Rattle.kept_laws.specs.Kept.{Kept, opening_kept}
use Rattle.kept_laws.specs.Standing.{Stands}
use Rattle.kept_laws.specs.Reached.{Reached}
use Rattle.kept_laws.proofs.Keeping.{opening}
use Rattle.kept_laws.proofs.Reaching.{opening_reached}
use Rattle.run_report.proofs.Limits.{unlimited}
use Rattle.run_report.proofs.Quiet.{run_append}
use Rattle.live_output.specs.Playing.{HasPlace, IsEventStep, IsPlayed}
use Rattle.live_output.specs.Schedules.{fits, longest, with_settling}
use Rattle.live_output.proofs.Longest.{whole_law}
use Rattle.geo_base.proofs.Results.{none_is_not_some}

abbrev Answer : Type 0
Answer = Result (Unit {0}) RunFault

abbrev opening_run : Setup → Ran
opening_run s = at_world (opening_world s)

-- ---- the machine's run after such steps
reached_from : (s : Setup) (r : Ran) (es : List Step) → Reached s r.world → Reached s (run_from all_limits s r es).world
reached_from s r [] h = h
reached_from s r (e ∷ es) h = reached_from s (steps all_limits s r e) es (reaches s r e h)

-- a run that has not ended is at its world
at_its_world : (r : Ran) → r.ended ≡ None → r ≡ at_world r.world
at_its_world r none = ap (λ (o : Option ℕ). ran r.world o) none
  where
    ran : World → Option ℕ → Ran
    ran w o = record { world = w; ended = o }

behind : (s : Setup) (es : List Step) (e : Step) → (run_under all_limits s es).ended ≡ None
    → run_under all_limits s (es ++ e ∷ []) ≡ steps all_limits s (at_world (run s es)) e
behind s es e none =
    run_append all_limits s (opening_run s) es (e ∷ [])
    ∙ ap (λ (r : Ran). steps all_limits s r e) (at_its_world (run_under all_limits s es) none ∙ ap at_world (unlimited all_limits s es none))

reached_run : (s : Setup) (es : List Step) → (run_under all_limits s es).ended ≡ None → Reached s (run s es)
reached_run s es none =
    subst (Reached s) (unlimited all_limits s es none) (reached_from s (opening_run s) es (opening_reached s))

-- ---- one more step
abbrev ComesBy : Setup → WorldView → WorldView → Step → Answer → Type 0
ComesBy s old new e r = (w : World) → Reached s w → Stands s (kept_of old) w → Comes s new (steps all_limits s (at_world w) e) r

come : (n : Script) (es : List Step) (old new : WorldView) (e : Step) (r : Answer) → IsPlayed n es old → ComesBy n.setup old new e r
    → Comes n.setup new (run_under all_limits n.setup (es ++ e ∷ [])) r
come n es old new e r played comes =
    let f = played.finished in
    subst (λ (q : Ran). Comes n.setup new q r) (sym (behind n.setup es e f.unlimited)) (comes (run n.setup es) (reached_run n.setup es f.unlimited) f.stands)

ok_of : {X : Type 0} (r : Answer) (u : Unit {0}) → r ≡ Ok u → OnOk r X → X
ok_of {X} r u is h = subst (λ (r : Answer). OnOk r X) is h

-- it is done
pub one_more : (n : Script) (es fs : List Step) (old new : WorldView) (e : Step) (r : Answer) (u : Unit {0}) → IsPlayed n es old → ComesBy n.setup old new e r → IsAt n.setup new
    → r ≡ Ok u → IsStep n.setup e → fs ≡ es ++ e ∷ [] → IsPlayed n fs new
one_more n es fs old new e r u played comes at ok known is =
    let s = n.setup in
    let d = ok_of r u ok (come n es old new e r played comes).done in
    subst (λ (gs : List Step). IsPlayed n gs new) (sym is) (record {
      finished = record {
        unlimited = d.1;
        at = at;
        stands = subst (λ (w : World). Stands s (kept_of new) w) (unlimited all_limits s (es ++ e ∷ []) d.1) d.0;
      };
      known = All-push (IsStep s) es e played.known known;
    })

fits_some : (o : Option ℕ) (limit : ℕ) → o ≡ Some limit → not (is_some o) ≡ false
fits_some o limit some = ap (λ (o : Option ℕ). not (is_some o)) some

pub one_more_fits : (n : Script) (es : List Step) (old new : WorldView) (e : Step) (r : Answer) (u : Unit {0}) → IsPlayed n es old → ComesBy n.setup old new e r
    → r ≡ Ok u → fits n.setup (es ++ e ∷ []) ≡ true
one_more_fits n es old new e r u played comes ok =
    none_is_not_some (run_under all_limits n.setup (es ++ e ∷ [])).ended (ok_of r u ok (come n es old new e r played comes).done).1

-- it passes a limit
pub one_more_exceeds : (n : Script) (es : List Step) (old new : WorldView) (e : Step) (r : Answer) (f : RunFault) (limit : ℕ) → IsPlayed n es old → ComesBy n.setup old new e r
    → r ≡ Err f → f ≡ fault.TooLarge limit → fits n.setup (es ++ e ∷ []) ≡ false
one_more_exceeds n es old new e r f limit played comes err large =
    fits_some (run_under all_limits n.setup (es ++ e ∷ [])).ended limit ((come n es old new e r played comes).large limit (err ∙ ap (λ (f : RunFault). Err f) large)).1

-- and where it is an event, nothing was done of it
same_over : (w next : World) (o : Option ℕ) (limit : ℕ) → (ends_or (at_world w) next o).ended ≡ Some limit → (ends_or (at_world w) next o).world ≡ w
same_over w next None limit past = absurd (cc past)
same_over w next (Some n) limit past = refl

event_over : (s : Setup) (w : World) (e : Event) (limit : ℕ) → (steps all_limits s (at_world w) (step.Plain e)).ended ≡ Some limit → (steps all_limits s (at_world w) (step.Plain e)).world ≡ w
unfolding steps
event_over s w e limit past = same_over w (happens s w e) (all_limits (happens s w e)) limit past

step_over : (s : Setup) (w : World) (k : Step) (limit : ℕ) → IsEventStep s k → (steps all_limits s (at_world w) k).ended ≡ Some limit → (steps all_limits s (at_world w) k).world ≡ w
step_over s w (step.Plain e) limit is past = event_over s w e limit past
step_over s w (step.Halt i e) limit is past = absurd is
step_over s w step.Settle limit is past = absurd is
step_over s w step.Stop limit is past = absurd is

pub still_played : (n : Script) (es fs : List Step) (old new : WorldView) (e : Step) (r : Answer) (f : RunFault) (limit : ℕ) → IsPlayed n es old → ComesBy n.setup old new e r
    → IsAt n.setup new → r ≡ Err f → f ≡ fault.TooLarge limit → IsEventStep n.setup e → fs ≡ es → IsPlayed n fs new
still_played n es fs old new e r f limit played comes at err large event is =
    let s = n.setup in
    let k = played.finished in
    let w = run s es in
    let d = (comes w (reached_run s es k.unlimited) k.stands).large limit (err ∙ ap (λ (f : RunFault). Err f) large) in
    subst (λ (gs : List Step). IsPlayed n gs new) (sym is) (record {
      finished = record {
        unlimited = k.unlimited;
        at = at;
        stands = subst (λ (w : World). Stands s (kept_of new) w) (step_over s w e limit event d.1) d.0;
      };
      known = played.known;
    })

-- before any step
pub none_played : (n : Script) (b : WorldView) (es : List Step) → kept_of b ≡ opening_kept n.setup → IsAt n.setup b → es ≡ [] → IsPlayed n es b
none_played n b es opens at is =
    let s = n.setup in
    subst (λ (gs : List Step). IsPlayed n gs b) (sym is) (record {
      finished = record { unlimited = refl; at = at; stands = subst (λ (k : Kept). Stands s k (opening_world s)) (sym opens) (opening s) };
      known = All-nil (IsStep s);
    })

-- an event whose place has such numbers is a step
pub known_step : (s : Setup) (k : Step) → HasPlace k → IsEventStep s k → IsStep s k
known_step s (step.Plain e) place is = is place
known_step s (step.Halt i e) place is = absurd is
known_step s step.Settle place is = absurd is
known_step s step.Stop place is = absurd is

-- ---- as many as fit
longest_more : (s : Setup) (done rest : List Step) (e : Step) → fits s (done ++ e ∷ []) ≡ true → longest s done (e ∷ rest) ≡ longest s (done ++ e ∷ []) rest
longest_more s done rest e h = ap (λ (b : Bool). if b then longest s (done ++ e ∷ []) rest else done) h

longest_over : (s : Setup) (done rest : List Step) (e : Step) → fits s (done ++ e ∷ []) ≡ false → longest s done (e ∷ rest) ≡ done
longest_over s done rest e h = ap (λ (b : Bool). if b then longest s (done ++ e ∷ []) rest else done) h

-- by the steps from place i on
next_left : (steps : List Step) (i : ℕ) (k : Step) → i < length steps → slice_index_or steps i k ≡ k → drop i steps ≡ k ∷ drop (i + 1) steps
next_left steps i k small at = drop_more steps i k small ∙ ap (λ (e : Step). e ∷ drop (i + 1) steps) at

pub goes_on : (s : Setup) (steps done new : List Step) (i : ℕ) (k : Step) → i < length steps → slice_index_or steps i k ≡ k → longest s done (drop i steps) ≡ longest s [] steps
    → (fits s (done ++ k ∷ []) ≡ true) × (new ≡ done ++ k ∷ []) → longest s new (drop (i + 1) steps) ≡ longest s [] steps
goes_on s steps done new i k small at before h =
    ap (λ (fs : List Step). longest s fs (drop (i + 1) steps)) h.1
    ∙ (sym (longest_more s done (drop (i + 1) steps) k h.0) ∙ (ap (longest s done) (sym (next_left steps i k small at)) ∙ before))

pub ends_here : (s : Setup) (steps done new : List Step) (i : ℕ) (k : Step) → i < length steps → slice_index_or steps i k ≡ k → longest s done (drop i steps) ≡ longest s [] steps
    → (fits s (done ++ k ∷ []) ≡ false) × (new ≡ done) → new ≡ longest s [] steps
ends_here s steps done new i k small at before h =
    h.1 ∙ (sym (longest_over s done (drop (i + 1) steps) k h.0) ∙ (ap (longest s done) (sym (next_left steps i k small at)) ∙ before))

pub all_done : (s : Setup) (steps done : List Step) (i : ℕ) → length steps ≤ i → longest s done (drop i steps) ≡ longest s [] steps → done ≡ longest s [] steps
all_done s steps done i past before = ap (longest s done) (sym (drop_all i steps past)) ∙ before

-- which are events that a script may schedule
pub more_events : (s : Setup) (steps done new : List Step) (i : ℕ) (k : Step) → i < length steps → slice_index_or steps i k ≡ k → All (IsEventStep s) steps
    → All (IsEventStep s) done → new ≡ done ++ k ∷ [] → All (IsEventStep s) new
more_events s steps done new i k small at all before is =
    let one : IsEventStep s k = subst (λ (e : Step). IsEventStep s e) at (All-get_or (IsEventStep s) steps i k small all) in
    All-same (IsEventStep s) new (done ++ k ∷ []) is (All-push (IsEventStep s) done k before one)

-- ---- settling after them
pub with_settled : (s : Setup) (es : List Step) → fits s (es ++ step.Settle ∷ []) ≡ true → with_settling s es ≡ es ++ step.Settle ∷ []
with_settled s es h = ap (λ (b : Bool). if b then es ++ step.Settle ∷ [] else es) h

without_settling : (s : Setup) (es fs : List Step) → fits s (es ++ step.Settle ∷ []) ≡ false → (run_under all_limits s es).ended ≡ None → fs ≡ longest s [] es → fs ≡ with_settling s es
without_settling s es fs h none is = is ∙ (whole_law s es none ∙ sym (ap (λ (b : Bool). if b then es ++ step.Settle ∷ [] else es) h))

pub none_settled : {T : Type 0} (s : Setup) (es : List Step) (steps_of : T → List Step) (r : Result T Memory) → fits s (es ++ step.Settle ∷ []) ≡ false
    → (run_under all_limits s es).ended ≡ None → IfOk r (λ p. steps_of p ≡ longest s [] es) → IfOk r (λ p. steps_of p ≡ with_settling s es)
none_settled s es steps_of (Ok p) h none is = without_settling s es (steps_of p) h none is
none_settled s es steps_of (Err e) h none is = tt

-- where it passes none, the step that says so stands after all others
pub settled_steps : {T : Type 0} (s : Setup) (es : List Step) (steps_of : T → List Step) (r : Result T Memory) → fits s (es ++ step.Settle ∷ []) ≡ true
    → IfOk r (λ p. steps_of p ≡ es ++ step.Settle ∷ []) → IfOk r (λ p. steps_of p ≡ with_settling s es)
settled_steps s es steps_of (Ok p) h is = is ∙ sym (with_settled s es h)
settled_steps s es steps_of (Err e) h is = tt

pub settled_at : {T : Type 0} (n : Script) (es : List Step) (w : WorldView) (steps_of : T → List Step) (world_of : T → WorldView) (r : Result T Memory)
    → IfOk r (λ p. steps_of p ≡ es) → IfOk r (λ p. world_of p ≡ w) → IsPlayed n es w → IfOk r (λ p. IsPlayed n (steps_of p) (world_of p))
settled_at n es w steps_of world_of (Ok p) is here at =
    subst (λ (fs : List Step). IsPlayed n fs (world_of p)) (sym is) (subst (λ (b : WorldView). IsPlayed n es b) (sym here) at)
settled_at n es w steps_of world_of (Err e) is here at = tt
