use Rattle.std.proofs.lemmas.Result.{err_from_is_err_and}
use Rattle.state_file.proofs.Loops.{node_ends, node_more}
use Rattle.state_file.proofs.body.nodes_at.Goals as goal

pub returns-in_err-node : goal.returns-in_err-node
returns-in_err-node c =
    let p = err_from_is_err_and c.from_residual.result c.from_residual.ensures.1 in
    let lt = rw (c.topics.ensures.names, c.clusters-names.ensures.names) at c.loop-number-test.true in
    let told = rw (c.per_ledger.ensures, c.clusters-names.ensures.names) at c.in_err-node.ensures in
    rw (p.1, p.2) (node_ends c.args.version c.args.scenario.now.setup c.loop-number.number c.loop-number.brokers.items c.loop-number.rest.now c.args.bytes.now c.in_err-node.field-0.0 lt told c.loop-number.invariant)

pub loop-number-preserved : goal.loop-number-preserved
loop-number-preserved c =
    let lt = rw (c.topics.ensures.names, c.clusters-names.ensures.names) at c.loop-number-test.true in
    let told = rw (c.per_ledger.ensures, c.clusters-names.ensures.names) at c.in_ok-node.ensures in
    node_more c.args.version c.args.scenario.now.setup c.loop-number.number c.loop-number.brokers.items c.push.new.self.items c.in_ok-node.node c.loop-number.rest.now c.in_ok-node.after.now c.args.bytes.now lt c.in_ok-push.ensures.items told c.loop-number.invariant
