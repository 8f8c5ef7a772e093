-- The world of the program at the end of a run.
use Rattle.std.specs.Prelude.{◌≡◌, List, None}
use Rattle.geo_base.specs.declared.event.Step.{Step}
use Rattle.geo_base.specs.Run.{all_limits, run}
use Rattle.kept_laws.specs.Saved.{world_from}
use Rattle.world.specs.World.{IsAt, WorldView, kept_of}
use Rattle.script_text.specs.Script.{Script}
use Rattle.state_file.specs.State.{SavedState}
use Rattle.kept_laws.specs.Standing.{Stands}
use Rattle.kept_laws.specs.Reached.{Reached}
use Rattle.run_report.specs.Reports.{exceeded_limit}
use Rattle.run_report.specs.States.{resumed, resumed_under}

-- the run passes no limit, and the world stands for the machine's at its end
pub record IsFinished (n : Script) (b : WorldView) : Type 0 where
  pub unlimited : exceeded_limit n ≡ None
  pub at : IsAt n.setup b
  pub stands : Stands n.setup (kept_of b) (run n.setup n.steps)

-- the world stands for the one from which a run goes on
pub record IsBegun (f : SavedState) (b : WorldView) : Type 0 where
  pub at : IsAt f.scenario.setup b
  pub reached : Reached f.scenario.setup (world_from f)
  pub stands : Stands f.scenario.setup (kept_of b) (world_from f)

-- the run that goes on passes no limit, and the world stands for the machine's at its end
pub record IsResumed (f : SavedState) (es : List Step) (b : WorldView) : Type 0 where
  pub unlimited : (resumed_under all_limits f es).ended ≡ None
  pub at : IsAt f.scenario.setup b
  pub stands : Stands f.scenario.setup (kept_of b) (resumed f es)
