use Rattle.run_report.proofs.Shown.{shown_report}
use Rattle.geo_top.proofs.top.scripts.reported.Goals as goal

pub returns-clause-done : goal.returns-clause-done
returns-clause-done c = shown_report c.args.scenario.now c.in_ok-world.world c.in_ok-bytes.field-0 c.in_ok-world.ensures.done c.in_ok-bytes.ensures
