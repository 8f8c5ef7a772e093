use Rattle.std.proofs.Common.{[], arith}
use Rattle.std.proofs.lemmas.Result.{err_from_is_err_and}
use Rattle.state_nodes.specs.Clients.{publish_at}
use Rattle.state_items.specs.Reading.{many}
use Rattle.state_items.proofs.Loops.{ends, goes_on, is_done}
use Rattle.state_nodes.proofs.force.counted_publishes.Goals as goal

pub returns-in_err-index : goal.returns-in_err-index
returns-in_err-index c =
    let one = publish_at c.args.lines.now c.args.done in
    let p = err_from_is_err_and c.from_residual.result c.from_residual.ensures.1 in
    rw (p.1, p.2) (ends one c.in_err-index.field-0.0 c.args.count c.loop.counter c.loop.publishes.items c.loop.rest.now (many one c.args.count [] c.args.bytes.now) c.loop-test.true (c.in_err-index.ensures c.loop.publishes.items) c.loop.invariant)

pub loop-preserved : goal.loop-preserved
loop-preserved c =
    let one = publish_at c.args.lines.now c.args.done in
    goes_on one c.args.count c.loop.counter c.loop.publishes.items c.push.new.self.items c.loop.rest.now c.in_ok-index.index c.in_ok-index.after.now (many one c.args.count [] c.args.bytes.now) c.loop-test.true c.in_ok-push.ensures.items (c.in_ok-index.ensures c.loop.publishes.items) c.loop.invariant

pub returns : goal.returns
returns c =
    let one = publish_at c.args.lines.now c.args.done in
    is_done one c.args.count c.loop.counter c.loop.publishes.items c.loop.rest.now (many one c.args.count [] c.args.bytes.now) (omega (arith, c.loop-test.false)) c.loop.invariant
