-- What is written of a run whose nodes kept logs (own): the report of a run of the machine, and its schedule.
use Rattle.std.specs.Prelude.{◌≡◌, ℕ, List, ◌++◌, None, Ok, All, codes}
use Rattle.geo_base.specs.declared.event.Step.{Step}
use Rattle.geo_base.specs.History.{RecordedEvent}
use Rattle.geo_base.specs.Merge.{merge_of, steps_of}
use Rattle.script_text.specs.Naming.{names_of}
use Rattle.script_text.specs.Scenario.{IsStep}
use Rattle.script_text.specs.Schedule.{schedule_of, schedule_text}
use Rattle.script_text.specs.Script.{Script}
use Rattle.merge_history.specs.Ends.{AreStood, layout_of}
use Rattle.merge_history.specs.Kept.{Kept}
use Rattle.merge_history.specs.Logs.{AreKept, LogView}
use Rattle.merge_history.specs.Events.{AreMergedEvents}
use Rattle.run_report.specs.Claims.{HoldsOf}
use Rattle.run_report.specs.Reports.{exceeded_limit, report_of}
use Rattle.live_output.specs.Playing.{with_steps}
use Rattle.live_output.specs.Schedules.{EndsSettled, scheduled}

-- the report of the run of these steps, the line `schedule`, and the steps, a line each
abbrev pub live_text : Script → List Step → List ℕ
live_text n es = report_of (with_steps n es) ++ (codes "schedule\n" ++ schedule_text (names_of n.setup) es)

-- What holds of a schedule that is written, and of the run over it.
pub record IsLiveRun (n : Script) (es : List Step) : Type 0 where
  -- Each step is one that the script may schedule, so what is written reads back as these steps.
  pub steps : All (IsStep n.setup) es
  pub reads_back : schedule_of n.setup (schedule_text (names_of n.setup) es) ≡ Ok es
  -- Their run passes no limit; the last step settles, or settling after it would pass one.
  pub within : exceeded_limit (with_steps n es) ≡ None
  pub last : EndsSettled n.setup es
  -- All that is claimed of the run of a script holds of it.
  pub holds : HoldsOf (with_steps n es)

-- Of logs that the merge sees: what counts of them stands for histories of values, each of which replays; and what is written are
-- report and schedule of as much of the merge of these as the limits allow, with settling after it where that fits.
pub record IsOutputOf (c : Script) (bs : List LogView) (output : List ℕ) : Type 0 where
  pub kept : List (List Kept)
  pub counts : AreKept c bs kept
  pub said : List (List RecordedEvent)
  pub stands : AreStood c.setup (layout_of c.setup) kept said
  pub text : output ≡ live_text c (scheduled c.setup (steps_of (merge_of said)))

-- Of all logs, whatever configuration each keeps: what is written are report and schedule of as much of their events, as far as the
-- script may schedule them, as the limits allow, with settling after it where that fits.
pub record IsOutputOfAll (c : Script) (bs : List LogView) (output : List ℕ) : Type 0 where
  pub events : List Step
  pub merged : AreMergedEvents c.setup bs events
  pub text : output ≡ live_text c (scheduled c.setup events)

-- what is written is report and schedule of some run
pub record TellsRun (n : Script) (output : List ℕ) : Type 0 where
  pub schedule : List Step
  pub run : IsLiveRun n schedule
  pub text : output ≡ live_text n schedule
