-- The steps of a run, as `steps` writes them (own).
use Rattle.std.specs.Prelude.{ℕ, ◌≤◌, List, ◌++◌, length}
use Rattle.geo_base.specs.declared.event.Step.{Step}
use Rattle.geo_base.specs.Report.{with_line_feeds}
use Rattle.geo_base.specs.Run.{all_limits}
use Rattle.geo_base.specs.World.{World, opening_world}
use Rattle.script_rows.specs.Written.{step_line}
use Rattle.script_text.specs.Naming.{names_of}
use Rattle.script_text.specs.Canonical.{declarations_text}
use Rattle.script_text.specs.Lines.{lines_of}
use Rattle.script_text.specs.Said.{Said, said_from, said_in}
use Rattle.script_text.specs.Schedule.{schedule_text}
use Rattle.script_text.specs.Script.{Script}
use Rattle.state_file.specs.State.{SavedState}
use Rattle.step_laws.specs.Steps.{steps_lines}
use Rattle.world.specs.Runs.{at_world}
use Rattle.kept_laws.specs.Saved.{world_from}

-- what a script declares, as a state file has it, and after the line `steps` the report of the world where these steps begin, and what
-- each of them changed, told with the line that says it
abbrev pub steps_text : Script → World → List Said → List Step → List ℕ
steps_text n w said es =
    declarations_text n.setup n.chance ++ with_line_feeds (steps_lines (step_line (names_of n.setup)) all_limits n.setup (at_world w) said es)

-- of a script's run, by the text of the script
abbrev pub steps_of : List ℕ → Script → List ℕ
steps_of text n = steps_text n (opening_world n.setup) (said_in n.first_event text) n.steps

-- each step of a script has a line of its text that says it: none is left untold for want of one
abbrev pub AreAllSaid : List ℕ → Script → Type 0
AreAllSaid text n = length n.steps ≤ length (said_in n.first_event text)

-- of a run that goes on from a state, by the lines after it
abbrev pub steps_on : SavedState → List ℕ → List Step → List ℕ
steps_on f lines es = steps_text f.scenario (world_from f) (said_from 1 (lines_of lines)) es

abbrev pub AreAllSaidOn : List ℕ → List Step → Type 0
AreAllSaidOn lines es = length es ≤ length (said_from 1 (lines_of lines))

-- of the run of a script that no text said, by its schedule as it is written
abbrev pub steps_by_schedule : Script → List ℕ
steps_by_schedule n = steps_text n (opening_world n.setup) (said_from 1 (lines_of (schedule_text (names_of n.setup) n.steps))) n.steps

-- and each of them has a line there
abbrev pub AreAllWritten : Script → Type 0
AreAllWritten n = AreAllSaidOn (schedule_text (names_of n.setup) n.steps) n.steps
