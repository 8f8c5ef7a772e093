use Rattle.std.proofs.lemmas.Result.{err_from_is_err_and}
use Rattle.state_file.proofs.Bodies.{head_stops, nodes_stop, tail_told}
use Rattle.state_file.specs.State.{state_of}
use Rattle.state_file.proofs.body.body_at.Goals as goal

pub returns-in_err-scenario-clause-told : goal.returns-in_err-scenario-clause-told
returns-in_err-scenario-clause-told c =
    let p = err_from_is_err_and c.from_residual.result c.from_residual.ensures.1 in
    rw (p.1, p.2) (head_stops c.args.version c.args.size c.args.body.now c.in_err-scenario.field-0.0 c.in_err-scenario.ensures)

pub returns-in-Ok-clause-told : goal.returns-in-Ok-clause-told
returns-in-Ok-clause-told c =
    tail_told c.args.version c.args.size c.args.body.now c.in_ok-scenario.scenario c.in_ok-scenario.counts c.in_ok-scenario.rest.now _ c.in-Ok.rest.now state_of c.tail_at.result c.in_ok-scenario.ensures c.in-Ok.ensures c.tail_at.ensures.read

pub returns-in-Err-clause-told : goal.returns-in-Err-clause-told
returns-in-Err-clause-told c =
    nodes_stop c.args.version c.args.size c.args.body.now c.in_ok-scenario.scenario c.in_ok-scenario.counts c.in_ok-scenario.rest.now c.in-Err.fault c.in_ok-scenario.ensures c.in-Err.ensures
