use Rattle.std.proofs.Common.{[], arith}
use Rattle.std.proofs.lemmas.Result.{err_from_is_err_and}
use Rattle.durable_parts.specs.Parts.{sub_of}
use Rattle.state_items.specs.Reading.{many}
use Rattle.state_items.proofs.Loops.{ends, goes_on, is_done}
use Rattle.state_nodes.specs.Subs.{sub_at}
use Rattle.state_nodes.proofs.subs.counted_subs.Goals as goal

pub returns-in_err-sub : goal.returns-in_err-sub
returns-in_err-sub c =
    let one = sub_at c.args.version c.args.entries in
    let p = err_from_is_err_and c.from_residual.result c.from_residual.ensures.1 in
    rw (p.1, p.2) (ends one c.in_err-sub.field-0.0 c.args.count c.loop.counter c.loop.subs c.loop.rest.now (many one c.args.count [] c.args.bytes.now) c.loop-test.true c.in_err-sub.ensures.read c.loop.invariant)

pub loop-preserved : goal.loop-preserved
loop-preserved c =
    let one = sub_at c.args.version c.args.entries in
    goes_on one c.args.count c.loop.counter c.loop.subs c.add.new.self c.loop.rest.now (sub_of c.in_ok-sub.sub) c.in_ok-sub.after.now (many one c.args.count [] c.args.bytes.now) c.loop-test.true c.in_ok-add.ensures.ok c.in_ok-sub.ensures.read c.loop.invariant

pub returns : goal.returns
returns c =
    let one = sub_at c.args.version c.args.entries in
    is_done one c.args.count c.loop.counter c.loop.subs c.loop.rest.now (many one c.args.count [] c.args.bytes.now) (omega (arith, c.loop-test.false)) c.loop.invariant
