-- At the end of a generated run all is quiet: its last step settles.
use Rattle.std.proofs.Common.{◌≡◌, ℕ, true, List, [], ◌∷◌, ◌++◌, refl, sym, ap, subst, ◌∙◌, append_assoc}
use Rattle.std.specs.Prelude.{Option, None}
use Rattle.geo_base.specs.declared.event.Step.{Step}
use Rattle.geo_base.specs.declared.event.Step.TheVariants as step
use Rattle.geo_base.specs.Laws.{after_settling}
use Rattle.geo_base.specs.Run.{Limits, Ran, is_quiet, no_limits, run, run_from, run_under, settled_world, steps}
use Rattle.geo_base.specs.Setup.{Setup}
use Rattle.geo_base.specs.World.{World, opening_world}
use Rattle.script_generator.specs.Drawing.{seeded}
use Rattle.script_generator.specs.Generated.{generated_run}
use Rattle.script_generator.specs.Schedule.{connects, finishes, generated_steps, opens, turns}
use Rattle.world_laws.proofs.Budget.InTime.{settles_in_time}
use Rattle.run_report.proofs.Limits.{never_ends}

-- a run of some steps, and then of others
pub run_append : (l : Limits) (s : Setup) (r : Ran) (es fs : List Step) → run_from l s r (es ++ fs) ≡ run_from l s (run_from l s r es) fs
run_append l s r [] fs = refl
run_append l s r (e ∷ es) fs = run_append l s (steps l s r e) es fs

settles_last : (s : Setup) (r : Ran) → r.ended ≡ None → (steps no_limits s r step.Settle).world ≡ after_settling s r.world
unfolding steps
settles_last s r none = ap (λ (o : Option ℕ). (settled_world no_limits s (record { world = r.world; ended = o })).world) none

pub run_settled : (s : Setup) (es : List Step) → run s (es ++ step.Settle ∷ []) ≡ after_settling s (run s es)
run_settled s es =
    let o : Ran = record { world = opening_world s; ended = None } in
    ap (λ (r : Ran). r.world) (run_append no_limits s o es (step.Settle ∷ [])) ∙ settles_last s (run_under no_limits s es) (never_ends s es)

quiet_behind : (s : Setup) (es : List Step) → is_quiet s (run s (es ++ step.Settle ∷ [])) ≡ true
quiet_behind s es = subst (λ (w : World). is_quiet s w ≡ true) (sym (run_settled s es)) (settles_in_time s (run s es)).quiet

before_settling : ℕ → List Step
before_settling number = connects 4 ++ (opens 6 ++ ((turns 20000 (seeded number)).steps ++ finishes 3))

generated_settles : (number : ℕ) → generated_steps number ≡ before_settling number ++ step.Settle ∷ []
unfolding generated_steps before_settling
generated_settles number = simp append_assoc

pub generated_quiet : (number : ℕ) → let n = generated_run number in is_quiet n.setup (run n.setup n.steps) ≡ true
generated_quiet number =
    let s = (generated_run number).setup in
    subst (λ (es : List Step). is_quiet s (run s es) ≡ true) (sym (generated_settles number)) (quiet_behind s (before_settling number))
