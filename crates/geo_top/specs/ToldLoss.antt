-- What is promised of `lost` (own).
use Rattle.std.specs.Prelude.{◌≡◌, ℕ, Bool, true, List, drop, Option, Some, None, IsOkAnd, Ok}
use Rattle.geo_base.specs.Run.{run}
use Rattle.script_text.specs.Rules.{script_of}
use Rattle.script_text.specs.Schedule.{schedule_of}
use Rattle.script_text.specs.Script.{Script}
use Rattle.state_file.specs.Loading.{IsLoaded}
use Rattle.state_file.specs.State.{SavedState}
use Rattle.geo_top.specs.declared.top.command.Command.{Command}
use Rattle.geo_top.specs.declared.top.status.Status.{Status}
use Rattle.geo_top.specs.declared.top.status.Status.TheVariants as status
use Rattle.run_report.specs.Claims.{HoldsWithin}
use Rattle.geo_top.specs.Commands.{lost_command, lost_on_command}
use Rattle.geo_top.specs.Losing.{Declares, LossHolds, lost_of, lost_on}
use Rattle.geo_top.specs.OneRun.{IsSavedWith}
use Rattle.run_report.specs.Reports.{resumed_limit}
use Rattle.run_report.specs.States.{gone_on}

pub record IsToldLoss (c : Option Command) (input output : List ℕ) (s : Status) : Type 0 where
  -- With Ok, `lost X` writes what is lost if X goes where the run of the script ends that the input is, which declares X: what is missing
  -- at each other cluster, what would come again there, what was never told, and what is lost for good; with `numbers` without the
  -- messages. The run passes no limit, all holds of it that is claimed of a run, and of the messages what the laws of a loss say.
  pub ended : (name : List ℕ) (names : Bool) → s ≡ status.Ok → c ≡ Some (lost_command name names)
      → IsOkAnd (script_of input) (λ n. Declares n.setup name × (output ≡ lost_of name names n) × HoldsWithin n × LossHolds n.setup (run n.setup n.steps))
  -- `lost X from` writes it, with the messages, of where the run comes to that goes on from the state that the input begins with, which
  -- declares X, over the schedule after its bytes, and that run passes no limit;
  pub on_state : (name : List ℕ) → s ≡ status.Ok → c ≡ Some (lost_on_command name) → (g : SavedState) × (used : ℕ) × IsLoaded input (Ok (g, used))
      × IsOkAnd (schedule_of g.scenario.setup (drop used input)) (λ es. Declares g.scenario.setup name × (output ≡ lost_on name g es) × (resumed_limit g es ≡ None))
  -- and where that state is what `save` wrote of a script, it is what `lost X` writes of one run, that of the script with a stop of
  -- everything and the schedule after its steps, of which all the same holds.
  pub one_run : (name : List ℕ) (n : Script) (lines : List ℕ) → s ≡ status.Ok → c ≡ Some (lost_on_command name) → IsSavedWith n lines input
      → IsOkAnd (schedule_of n.setup lines) (λ es. let m = gone_on n es in
      (output ≡ lost_of name true m) × HoldsWithin m × LossHolds n.setup (run n.setup m.steps))
