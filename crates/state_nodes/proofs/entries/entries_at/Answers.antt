use Rattle.std.proofs.Common.{arith}
use Rattle.std.proofs.lemmas.Result.{err_from_is_err_and}
use Rattle.state_nodes.proofs.EntryExits.{entries_done, entry_ends, entry_more}
use Rattle.state_nodes.proofs.entries.entries_at.Goals as goal

pub returns-in_err-entry : goal.returns-in_err-entry
returns-in_err-entry c =
    let p = err_from_is_err_and c.from_residual.result c.from_residual.ensures.1 in
    rw (p.1, p.2) (entry_ends c.args.names.now c.args.own c.args.count c.loop.counter c.loop.topic_so_far c.loop.rest.now c.args.bytes.now c.in_err-entry.field-0.0 c.loop-test.true c.in_err-entry.ensures.told c.loop.invariant)

pub loop-preserved : goal.loop-preserved
loop-preserved c =
    entry_more c.args.names.now c.args.own c.args.count c.loop.counter c.loop.topic_so_far c.push.new.self c.loop.rest.now c.in_ok-entry.after.now c.args.bytes.now c.in_ok-entry.entry c.loop-test.true c.in_ok-push.ensures c.in_ok-entry.ensures.told c.loop.invariant

pub returns : goal.returns
returns c =
    entries_done c.args.names.now c.args.own c.args.count c.loop.counter c.loop.topic_so_far c.into_entries.result.items c.loop.rest.now c.args.bytes.now (omega (arith, c.loop-test.false)) c.into_entries.ensures c.loop.invariant
