use Rattle.state_file.specs.State.{state_of}
use Rattle.state_file.proofs.Known.{loaded_known}
use Rattle.geo_top.proofs.Saving.{file_answered, file_refused, file_strange}
use Rattle.geo_top.proofs.top.states.answer_to_file.Goals as goal

pub going_on_answer-requires-clause-known : goal.going_on_answer-requires-clause-known
going_on_answer-requires-clause-known c = loaded_known c.args.bytes.now (state_of c.in-Ok.saved) c.in-Ok.used c.in-Ok.ensures

pub returns-in-Ok : goal.returns-in-Ok
returns-in-Ok c =
    file_answered c.args.shown c.args.bytes.now c.behind.result.now (state_of c.in-Ok.saved) c.in-Ok.used c.going_on_answer.result c.in-Ok.ensures c.behind.ensures.behind c.going_on_answer.ensures

pub returns-in-Err-BadState : goal.returns-in-Err-BadState
returns-in-Err-BadState c =
    file_refused c.args.shown c.args.bytes.now c.in-Err-BadState.offset c.in-Err-BadState.rule c.refusal.result (rw c.in-Err-BadState.field-0-is at c.in-Err-BadState.ensures) (rw c.in-Err-BadState.field-0-is at c.refusal.ensures)

pub returns-in-Err-Version : goal.returns-in-Err-Version
returns-in-Err-Version c =
    file_strange c.args.shown c.args.bytes.now c.in-Err-Version.number c.refusal-in-Err-Version.result (rw c.in-Err-Version.field-0-is at c.in-Err-Version.ensures) (rw c.in-Err-Version.field-0-is at c.refusal-in-Err-Version.ensures)
