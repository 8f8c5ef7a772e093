use Rattle.std.proofs.Common.{arith}
use Rattle.std.proofs.lemmas.Result.{err_from_is_err_and}
use Rattle.state_file.proofs.Loops.{client_ends, client_more, clients_done}
use Rattle.state_file.proofs.body.clients_at.Goals as goal

pub loop-declared-preserved : goal.loop-declared-preserved
loop-declared-preserved c =
    let told = rw (c.lines.ensures, c.declared-item.is, c.clients-declared-items.ensures.clients, c.clusters.ensures.names) at c.in_ok-client.ensures in
    let lt = rw (c.clients-declared-items.ensures.clients) at c.loop-declared-test.true in
    client_more c.args.scenario.now.setup c.loop-declared.declared-index _ c.loop-declared.clients.items c.push.new.self.items c.in_ok-client.client c.loop-declared.rest.now c.in_ok-client.after.now c.args.bytes.now lt c.in_ok-push.ensures.items told c.loop-declared.invariant

pub returns-in_err-client : goal.returns-in_err-client
returns-in_err-client c =
    let p = err_from_is_err_and c.from_residual.result c.from_residual.ensures.1 in
    let told = rw (c.lines.ensures, c.declared-item.is, c.clients-declared-items.ensures.clients, c.clusters.ensures.names) at c.in_err-client.ensures in
    let lt = rw (c.clients-declared-items.ensures.clients) at c.loop-declared-test.true in
    rw (p.1, p.2) (client_ends c.args.scenario.now.setup c.loop-declared.declared-index _ c.loop-declared.clients.items c.loop-declared.rest.now c.args.bytes.now c.in_err-client.field-0.0 lt told c.loop-declared.invariant)

pub returns : goal.returns
returns c =
    let over = rw (c.clients-declared-items.ensures.clients) at c.loop-declared-test.false in
    clients_done c.args.scenario.now.setup c.loop-declared.declared-index c.loop-declared.clients.items c.loop-declared.rest.now c.args.bytes.now (omega (arith, over)) c.loop-declared.invariant
