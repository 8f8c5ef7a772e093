use Rattle.std.proofs.Common.{subst}
use Rattle.script_rows.specs.Names.{Names}
use Rattle.script_text.specs.Drafts.{Answers}
use Rattle.script_text.specs.Lines.{lines_of}
use Rattle.script_text.specs.Schedule.{schedule_from}
use Rattle.script_text.specs.Script.{no_steps}
use Rattle.script_text.proofs.ScheduleBack.{steps_known}
use Rattle.script_text.proofs.schedule.read.Goals as goal

pub returns-in-Ok-clause-answers : goal.returns-in-Ok-clause-answers
returns-in-Ok-clause-answers c =
    subst (λ (n : Names). Answers c.read_by-steps.result (schedule_from 1 n no_steps (lines_of c.args.bytes.now))) c.in-Ok.ensures.names c.read_by-steps.ensures

pub returns-in-Ok-clause-known : goal.returns-in-Ok-clause-known
returns-in-Ok-clause-known c =
    let answers = subst (λ (n : Names). Answers c.read_by-steps.result (schedule_from 1 n no_steps (lines_of c.args.bytes.now))) c.in-Ok.ensures.names c.read_by-steps.ensures in
    steps_known c.args.scenario.now.setup c.args.bytes.now c.read_by-steps.result c.in-Ok.ensures.known answers
