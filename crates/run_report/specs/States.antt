-- What `save` writes, and where a run goes on from it.
use Rattle.std.specs.Prelude.{ℕ, List, [], ◌∷◌, ◌++◌}
use Rattle.geo_base.specs.declared.event.Step.{Step}
use Rattle.geo_base.specs.declared.event.Step.TheVariants as step
use Rattle.geo_base.specs.Run.{Limits, Ran, no_limits, run, run_from}
use Rattle.geo_base.specs.World.{World}
use Rattle.world.specs.Runs.{at_world}
use Rattle.state_file.specs.State.{SavedState, state_in}
use Rattle.kept_laws.specs.Saved.{world_from}
use Rattle.script_text.specs.Script.{Script}
use Rattle.state_file.specs.Texts.{state_text}

-- a script with a stop of everything after its steps
abbrev pub stopped : Script → Script
stopped n = record n { steps = n.steps ++ step.Stop ∷ [] }

-- and with more steps after that
abbrev pub gone_on : Script → List Step → Script
gone_on n es = record n { steps = n.steps ++ step.Stop ∷ es }

-- the state after its run and the stop, and the bytes of that state
abbrev pub state_of_run : Script → SavedState
state_of_run n = state_in n (run n.setup (stopped n).steps)

abbrev pub file_of : Script → List ℕ
file_of n = state_text (state_of_run n)

-- a run that goes on from a state
abbrev pub resumed_under : Limits → SavedState → List Step → Ran
resumed_under l f es = run_from l f.scenario.setup (at_world (world_from f)) es

-- the world after these steps
abbrev pub resumed : SavedState → List Step → World
resumed f es = (resumed_under no_limits f es).world
