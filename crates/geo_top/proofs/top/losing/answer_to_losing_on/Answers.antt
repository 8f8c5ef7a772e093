use Rattle.state_file.specs.State.{state_of}
use Rattle.state_file.proofs.Known.{loaded_known}
use Rattle.geo_top.proofs.Losing.{file_refused, file_strange, file_told}
use Rattle.geo_top.proofs.top.losing.answer_to_losing_on.Goals as goal

pub losing_behind-requires-clause-known : goal.losing_behind-requires-clause-known
losing_behind-requires-clause-known c = loaded_known c.args.bytes.now (state_of c.in-Ok.saved) c.in-Ok.used c.in-Ok.ensures

pub returns-in-Ok : goal.returns-in-Ok
returns-in-Ok c =
    file_told c.args.cluster.now c.args.bytes.now c.behind.result.now (state_of c.in-Ok.saved) c.in-Ok.used c.losing_behind.result c.in-Ok.ensures c.behind.ensures.behind c.losing_behind.ensures

pub returns-in-Err-BadState : goal.returns-in-Err-BadState
returns-in-Err-BadState c =
    file_refused c.args.cluster.now c.args.bytes.now c.in-Err-BadState.offset c.in-Err-BadState.rule c.refusal.result (rw c.in-Err-BadState.field-0-is at c.in-Err-BadState.ensures) c.refusal.ensures

pub returns-in-Err-Version : goal.returns-in-Err-Version
returns-in-Err-Version c =
    file_strange c.args.cluster.now c.args.bytes.now c.in-Err-Version.number c.refusal-in-Err-Version.result (rw c.in-Err-Version.field-0-is at c.in-Err-Version.ensures) c.refusal-in-Err-Version.ensures
