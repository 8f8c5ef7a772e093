-- The report of a script's run, of one that goes on from a state, and the limit that either passes.
use Rattle.std.specs.Prelude.{ℕ, List, Option}
use Rattle.geo_base.specs.declared.event.Step.{Step}
use Rattle.geo_base.specs.Report.{report}
use Rattle.geo_base.specs.Run.{all_limits, run, run_under}
use Rattle.state_file.specs.State.{SavedState}
use Rattle.script_text.specs.Script.{Script}
use Rattle.run_report.specs.States.{resumed, resumed_under}

-- the bytes of the report of a script's run
abbrev pub report_of : Script → List ℕ
report_of n = report n.setup (run n.setup n.steps)

-- the number of the limit that a script's run passes: 2, where events and idle events together would be more than 2,000,000; 3,
-- where the bytes of all frames would be more than 1 GiB
abbrev pub exceeded_limit : Script → Option ℕ
exceeded_limit n = (run_under all_limits n.setup n.steps).ended

-- the bytes of the report of a run that goes on from a state
abbrev pub resumed_report : SavedState → List Step → List ℕ
resumed_report f es = report f.scenario.setup (resumed f es)

-- the number of the limit that such a run passes
abbrev pub resumed_limit : SavedState → List Step → Option ℕ
resumed_limit f es = (resumed_under all_limits f es).ended
