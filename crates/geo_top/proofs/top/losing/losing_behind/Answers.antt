use Rattle.std.proofs.Common.{rules}
use Rattle.state_file.specs.State.{state_of}
use Rattle.script_text.specs.Schedule.{schedule_of}
use Rattle.geo_top.proofs.Losing.{told_no_schedule, told_schedule}
use Rattle.geo_top.proofs.top.losing.losing_behind.Goals as goal

pub returns-in-Ok : goal.returns-in-Ok
returns-in-Ok c =
    let f = state_of c.args.saved in
    told_schedule c.args.cluster.now c.args.lines.now f c.in-Ok.steps (schedule_of f.scenario.setup c.args.lines.now) c.losing_saved-answer.result c.in-Ok.ensures.ok
    (c.losing_saved-answer.ensures c.args.lines.now c.line_behind.ensures.number)

pub returns-in-Rule : goal.returns-in-Rule
returns-in-Rule c =
    let f = state_of c.args.saved in
    told_no_schedule c.args.cluster.now c.args.lines.now f c.in-Rule.line c.in-Rule.rule (schedule_of f.scenario.setup c.args.lines.now) c.refusal.result (search rules) c.refusal.ensures
