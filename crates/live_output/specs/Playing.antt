-- A run that is done step by step, up to a limit.
use Rattle.std.specs.Prelude.{⊤, List, All}
use Rattle.geo_base.specs.declared.event.Event.TheVariants as event
use Rattle.geo_base.specs.declared.event.Step.{Step}
use Rattle.geo_base.specs.declared.event.Step.TheVariants as step
use Rattle.geo_base.specs.Setup.{Setup}
use Rattle.script_rows.specs.declared.value.Value.TheVariants as value
use Rattle.script_rows.specs.Written.{IsPositionOrEnd}
use Rattle.script_text.specs.Scenario.{IsStep}
use Rattle.script_text.specs.Script.{Script}
use Rattle.world.specs.World.{WorldView}
use Rattle.run_report.specs.Finished.{IsFinished}

-- a script with these steps in place of its own
abbrev pub with_steps : Script → List Step → Script
with_steps n es = record n { steps = es }

-- the place that a step seeks, if it seeks one, has numbers of 64 bits, as every value of the step's type has
abbrev pub HasPlace : Step → Type 0
HasPlace (step.Plain (event.Seek t x n to)) = IsPositionOrEnd (value.PositionOrEnd to)
HasPlace k = ⊤

-- an event that a script may schedule, where the place that it seeks has such numbers
abbrev pub IsEventStep : Setup → Step → Type 0
IsEventStep s (step.Plain e) = HasPlace (step.Plain e) → IsStep s (step.Plain e)
IsEventStep s k = ⊥

-- the steps pass no limit, the world stands for the machine's after them, and each of them is one that a script may schedule
pub record IsPlayed (n : Script) (es : List Step) (b : WorldView) : Type 0 where
  pub finished : IsFinished (with_steps n es) b
  pub known : All (IsStep n.setup) es
