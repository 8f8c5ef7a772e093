-- A generated run: the scenario is one, and the number determines the schedule.
use Rattle.std.specs.Prelude.{ℕ, None}
use Rattle.script_text.specs.Script.{Script}
use Rattle.script_generator.specs.Scenario.{generated_setup}
use Rattle.script_generator.specs.Schedule.{generated_steps}

-- no text says it: it has no chances, and its steps have no lines
abbrev pub generated_run : ℕ → Script
generated_run number =
    record { setup = generated_setup; chance = None; steps = generated_steps number; first_event = None }
