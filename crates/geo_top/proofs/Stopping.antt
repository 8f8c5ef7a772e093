-- A script's run, and a stop of everything after it.
use Rattle.std.proofs.Common.{◌≡◌, ℕ, [], ◌∷◌, if◌then◌else◌, refl, sym, ap, ◌∙◌}
use Rattle.std.specs.Prelude.{Option, Some, None, is_some, IfOk, OnOk, Result, Ok, Err}
use Rattle.geo_base.specs.declared.event.Step.TheVariants as step
use Rattle.geo_base.specs.Happening.{stops}
use Rattle.geo_base.specs.Run.{Limits, Ran, all_limits, ends_or, no_limits, run, run_under, steps}
use Rattle.geo_base.specs.Setup.{Setup}
use Rattle.geo_base.specs.World.{World, opening_world}
use Rattle.world.specs.declared.fault.RunFault.{RunFault}
use Rattle.world.specs.declared.fault.RunFault.TheVariants as fault
use Rattle.world.specs.Saving.{Saves}
use Rattle.state_file.specs.State.{state_in, state_of}
use Rattle.script_text.specs.Script.{Script}
use Rattle.state_file.specs.declared.saved.Saved.{Saved}
use Rattle.run_report.specs.Reports.{exceeded_limit}
use Rattle.run_report.specs.States.{state_of_run, stopped}
use Rattle.run_report.proofs.Limits.{never_ends, unlimited}
use Rattle.run_report.proofs.Quiet.{run_append}

stop_goes : (l : Limits) (s : Setup) (r : Ran) → r.ended ≡ None → steps l s r step.Stop ≡ ends_or r (stops s r.world) (l (stops s r.world))
unfolding steps
stop_goes l s r none =
    ap (λ (o : Option ℕ). if is_some o then r else ends_or r (stops s r.world) (l (stops s r.world))) none

stop_stays : (l : Limits) (s : Setup) (r : Ran) (limit : ℕ) → r.ended ≡ Some limit → steps l s r step.Stop ≡ r
unfolding steps
stop_stays l s r limit some =
    ap (λ (o : Option ℕ). if is_some o then r else ends_or r (stops s r.world) (l (stops s r.world))) some

ended_with : (r : Ran) (w : World) (o : Option ℕ) → (ends_or r w o).ended ≡ o
ended_with r w None = refl
ended_with r w (Some limit) = refl

abbrev opening : Setup → Ran
opening s = record { world = opening_world s; ended = None }

behind : (l : Limits) (n : Script) → run_under l n.setup (stopped n).steps ≡ steps l n.setup (run_under l n.setup n.steps) step.Stop
behind l n = run_append l n.setup (opening n.setup) n.steps (step.Stop ∷ [])

-- the machine's world after the stop
pub stop_world : (n : Script) → run n.setup (stopped n).steps ≡ stops n.setup (run n.setup n.steps)
stop_world n =
    ap (λ (r : Ran). r.world) (behind no_limits n ∙ stop_goes no_limits n.setup (run_under no_limits n.setup n.steps) (never_ends n.setup n.steps))

-- the limit that the run and the stop pass is that of the stop, where the run passes none
pub stop_limit : (n : Script) → exceeded_limit n ≡ None → exceeded_limit (stopped n) ≡ all_limits (stops n.setup (run n.setup n.steps))
stop_limit n none =
    let r = run_under all_limits n.setup n.steps in
    let same : r.world ≡ run n.setup n.steps = unlimited all_limits n.setup n.steps none in
    ap (λ (x : Ran). x.ended) (behind all_limits n ∙ stop_goes all_limits n.setup r none) ∙ (ended_with r (stops n.setup r.world) (all_limits (stops n.setup r.world)) ∙ ap (λ (w : World). all_limits (stops n.setup w)) same)

pub run_limit : (n : Script) (limit : ℕ) → exceeded_limit n ≡ Some limit → exceeded_limit (stopped n) ≡ Some limit
run_limit n limit some =
    ap (λ (x : Ran). x.ended) (behind all_limits n ∙ stop_stays all_limits n.setup (run_under all_limits n.setup n.steps) limit some) ∙ some

-- ---- what is saved of the world at the end of a script's run
saved_is : (n : Script) (v : Saved) (r : Result Saved RunFault) → Saves n (run n.setup n.steps) r → r ≡ Ok v → state_of v ≡ state_of_run n
saved_is n v r k e = is r e k.state ∙ ap (state_in n) (sym (stop_world n))
  where
    is : (r : Result Saved RunFault) → r ≡ Ok v → IfOk r (λ u. state_of u ≡ state_in n (stops n.setup (run n.setup n.steps))) → state_of v ≡ state_in n (stops n.setup (run n.setup n.steps))
    is (Ok u) e h = let same : u ≡ v = cc in ap state_of (sym same) ∙ h
    is (Err f) e h = cc

pub saved_state : (n : Script) (v : Saved) (r : Result Saved RunFault) → Saves n (run n.setup n.steps) r → r ≡ Ok v → state_of v ≡ state_of_run n
saved_state n v r k e = saved_is n v r k e

pub saved_within : (n : Script) (v : Saved) (r : Result Saved RunFault) → exceeded_limit n ≡ None → Saves n (run n.setup n.steps) r → r ≡ Ok v → exceeded_limit (stopped n) ≡ None
saved_within n v r none k e = stop_limit n none ∙ is r e k.within
  where
    is : (r : Result Saved RunFault) → r ≡ Ok v → OnOk r (all_limits (stops n.setup (run n.setup n.steps)) ≡ None) → all_limits (stops n.setup (run n.setup n.steps)) ≡ None
    is (Ok u) e h = h
    is (Err f) e h = cc

pub saved_large : (n : Script) (limit : ℕ) (r : Result Saved RunFault) → exceeded_limit n ≡ None → Saves n (run n.setup n.steps) r → r ≡ Err (fault.TooLarge limit) → exceeded_limit (stopped n) ≡ Some limit
saved_large n limit r none k e = stop_limit n none ∙ k.large limit e

-- and of whatever comes of it
pub saved_states : (n : Script) (r : Result Saved RunFault) → Saves n (run n.setup n.steps) r → IfOk r (λ v. state_of v ≡ state_of_run n)
saved_states n (Ok v) k = saved_state n v (Ok v) k refl
saved_states n (Err e) k = tt

pub saved_withins : (n : Script) (r : Result Saved RunFault) → exceeded_limit n ≡ None → Saves n (run n.setup n.steps) r → OnOk r (exceeded_limit (stopped n) ≡ None)
saved_withins n (Ok v) none k = saved_within n v (Ok v) none k refl
saved_withins n (Err e) none k = tt
