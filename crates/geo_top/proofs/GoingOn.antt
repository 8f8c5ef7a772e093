-- A run that goes on from what `save` wrote comes to the worlds of the one run.
use Rattle.std.proofs.Common.{◌≡◌, List, [], sym, subst, ◌∙◌}
use Rattle.std.specs.Prelude.{None, take}
use Rattle.geo_base.specs.declared.event.Step.{Step}
use Rattle.geo_base.specs.Run.{run}
use Rattle.geo_base.specs.World.{World}
use Rattle.kept_laws.specs.Saved.{world_from}
use Rattle.script_text.specs.Script.{Script}
use Rattle.world_laws.specs.AlikeWorlds.{AreAlike}
use Rattle.world_laws.proofs.KeptRuns.ResumedRuns.{between_alike, resumed_law}
use Rattle.world_laws.proofs.KeptRuns.SavedRuns.{reached_law}
use Rattle.geo_top.specs.OneRun.{GoesOnAlike, IsKept}
use Rattle.run_report.specs.Reports.{exceeded_limit, resumed_limit}
use Rattle.run_report.specs.States.{gone_on, state_of_run, stopped}
use Rattle.geo_top.proofs.OneRun.{kept_is, limits_same}

-- where the saved script's run and the stop came, and where a run goes on from its file
alike_there : (n : Script) → IsKept n → AreAlike (run n.setup (stopped n).steps) (world_from (state_of_run n))
alike_there n k =
    subst (λ (w : World). AreAlike (run n.setup (stopped n).steps) w) (sym (kept_is reached_law n k)) (resumed_law.script n.setup n.steps [])

pub goes_alike : (n : Script) (es : List Step) → IsKept n → GoesOnAlike n es
goes_alike n es k = λ j at. between_alike n.setup (world_from (state_of_run n)) (stopped n).steps (take j es) at (alike_there n k)

-- the run that goes on passes no limit where the one run passes none
pub goes_within : (n : Script) (es : List Step) → IsKept n → resumed_limit (state_of_run n) es ≡ None → exceeded_limit (gone_on n es) ≡ None
goes_within n es k none = sym (limits_same resumed_law n es (reached_law.opening n.setup) (kept_is reached_law n k) k.within) ∙ none
