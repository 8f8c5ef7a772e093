-- Further steps of a run, from where it came to.
use Rattle.std.proofs.Common.{◌≡◌, List, ◌∷◌, ◌++◌, refl, sym, ap, subst, ◌∙◌, ℕ, []}
use Rattle.std.specs.Prelude.{Option}
use Rattle.world_laws.proofs.Types.{Step}
use Rattle.world_laws.proofs.Types.event
use Rattle.world_laws.proofs.Types.step
use Rattle.geo_base.specs.Happening.{happens}
use Rattle.geo_base.specs.Laws.{after_settling, begun}
use Rattle.geo_base.specs.Run.{Ran, no_limits, run, run_from, steps}
use Rattle.geo_base.specs.Setup.{Setup}
use Rattle.geo_base.specs.World.{World, opening_world}
use Rattle.world_laws.specs.Reached.{ReachedFrom}
use Rattle.world_laws.proofs.Induction.Reaching.{goes_on}
use Rattle.world_laws.proofs.KeptRuns.ResumedRuns.{run_open, run_parts}
use Rattle.failover_laws.specs.Ended.{asking_steps}

-- further steps of a run from where it came to
pub run_on_from : (s : Setup) (before more : List Step) → run s (before ++ more) ≡ (run_from no_limits s (begun (run s before)) more).world
run_on_from s before more =
    ap (λ (r : Ran). r.world) (run_parts no_limits s (begun (opening_world s)) before more
    ∙ ap (λ (o : Option ℕ). run_from no_limits s (record { world = run s before; ended = o }) more) (run_open s (begun (opening_world s)) before refl))

pub reached_on : (s : Setup) (before more : List Step) → ReachedFrom s (run s before) (run s (before ++ more))
reached_on s before more = subst (ReachedFrom s (run s before)) (sym (run_on_from s before more)) ((goes_on s (run s before)).limited no_limits more)

pub settled_on : (s : Setup) (es : List Step) → run s (es ++ step.Settle ∷ []) ≡ after_settling s (run s es)
unfolding steps
settled_on s es = run_on_from s es (step.Settle ∷ [])

-- a run that has not ended is where it came to
pub open_at : (s : Setup) (w : World) (es : List Step) → run_from no_limits s (begun w) es ≡ begun (run_from no_limits s (begun w) es).world
open_at s w es = let none = run_open s (begun w) es refl in λ i. record { world = (run_from no_limits s (begun w) es).world; ended = none i }

pub after_asking : (s : Setup) (v : World) (t x : ℕ) → (run_from no_limits s (begun v) (asking_steps t x)).world ≡ after_settling s (happens s v (event.Snap t x))
unfolding steps
after_asking s v t x = refl

pub after_snap : (s : Setup) (v : World) (t x : ℕ) → (run_from no_limits s (begun v) (step.Plain (event.Snap t x) ∷ [])).world ≡ happens s v (event.Snap t x)
unfolding steps
after_snap s v t x = refl

pub settled_is : (s : Setup) (w : World) → (run_from no_limits s (begun w) (step.Settle ∷ [])).world ≡ after_settling s w
unfolding steps
settled_is s w = refl
