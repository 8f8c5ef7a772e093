use Rattle.std.proofs.Common.{List, Err, Ok, subst, sym}
use Rattle.geo_base.specs.declared.event.Step.{Step}
use Rattle.script_text.specs.Drafts.{Answers}
use Rattle.script_text.specs.Lines.{lines_of}
use Rattle.script_text.specs.Schedule.{schedule_from}
use Rattle.script_text.specs.Script.{Steps}
use Rattle.script_text.proofs.Answered.{not_taken}
use Rattle.script_text.proofs.schedule.read_by.Goals as goal

pub returns-in-Ok : goal.returns-in-Ok
returns-in-Ok c =
    let names = c.args.names.now in
    let lines = lines_of c.args.bytes.now in
    let taken = subst (λ (ss : List Step). Answers (Ok ss) (schedule_from 1 names c.new-steps.result lines)) (sym c.into_list.ensures) c.in-Ok.ensures in
    subst (λ (s : Steps). Answers (Ok c.into_list.result) (schedule_from 1 names s lines)) c.new-steps.ensures taken

pub returns-in-Err : goal.returns-in-Err
returns-in-Err c =
    let names = c.args.names.now in
    let lines = lines_of c.args.bytes.now in
    subst (λ (s : Steps). Answers {A = List Step} (Err c.in-Err.fault) (schedule_from 1 names s lines)) c.new-steps.ensures (not_taken c.in-Err.fault c.take_lines.new.steps.list (schedule_from 1 names c.new-steps.result lines) c.in-Err.ensures)
