use Rattle.std.proofs.Common.{◌≡◌, false, true, arith, rules}
use Rattle.node_log.proofs.ClientActs.{client_elsewhere, client_no_number, not_get}
use Rattle.node_log.proofs.client_acting.act_at_client.Goals as goal

pub returns-then-not-is_clients-clause-holds : goal.returns-then-not-is_clients-clause-holds
returns-then-not-is_clients-clause-holds g c = c.requires

pub returns-then-not-is_clients-clause-outcome : goal.returns-then-not-is_clients-clause-outcome
returns-then-not-is_clients-clause-outcome g c =
    let fails : c.is_clients.result ≡ false = (let said = c.if-not-is_clients.true in first_of (cc, search rules, grind (arith, said))) in
    client_elsewhere c.args.scenario.now c.args.own.now c.args.log.now.history.items c.args.log.now.clock c.args.ends.now.rows.items c.args.event.now g.E.End.sent g.E.End.taken g.E.End.shown g.E.End.free g.E.End.looks g.E.End.fits c.is_clients.result c.is_clients.ensures fails

pub returns-then-not-can_raise-clause-holds : goal.returns-then-not-can_raise-clause-holds
returns-then-not-can_raise-clause-holds g c = c.requires

pub returns-then-not-can_raise-clause-outcome : goal.returns-then-not-can_raise-clause-outcome
returns-then-not-can_raise-clause-outcome g c =
    let fails : c.can_raise.result ≡ false = (let said = c.if-not-can_raise.true in first_of (cc, search rules, grind (arith, said))) in
    client_no_number c.args.scenario.now c.args.own.now c.args.log.now.history.items c.args.log.now.clock c.args.ends.now.rows.items c.args.event.now g.E.End.sent g.E.End.taken g.E.End.shown g.E.End.free g.E.End.looks g.E.End.fits c.can_raise.result c.can_raise.ensures fails

pub get-requires-clause-holds : goal.get-requires-clause-holds
get-requires-clause-holds g c = c.requires

pub get-requires-clause-at : goal.get-requires-clause-at
get-requires-clause-at g c =
    let here : c.is_clients.result ≡ true = (let said = c.if-not-is_clients.false in first_of (cc, search rules, grind (arith, said))) in
    c.is_clients.ensures.0 here

pub get-requires-clause-numbers : goal.get-requires-clause-numbers
get-requires-clause-numbers g c =
    let may : c.can_raise.result ≡ true = (let said = c.if-not-can_raise.false in first_of (cc, search rules, grind (arith, said))) in
    c.can_raise.ensures.0 may

pub get-requires-clause-get : goal.get-requires-clause-get
get-requires-clause-get g c =
    let so : c.is_get.result ≡ true = (let said = c.if-is_get.true in first_of (cc, search rules, grind (arith, said))) in
    c.is_get.ensures.0 so

pub returns-then-is_get-clause-holds : goal.returns-then-is_get-clause-holds
returns-then-is_get-clause-holds g c = c.get.ensures.holds

pub returns-then-is_get-clause-outcome : goal.returns-then-is_get-clause-outcome
returns-then-is_get-clause-outcome g c = c.get.ensures.outcome

pub returns-then-is_get-clause-err : goal.returns-then-is_get-clause-err
returns-then-is_get-clause-err g c = c.get.ensures.err

pub send-requires-clause-holds : goal.send-requires-clause-holds
send-requires-clause-holds g c = c.requires

pub send-requires-clause-at : goal.send-requires-clause-at
send-requires-clause-at g c =
    let here : c.is_clients.result ≡ true = (let said = c.if-not-is_clients.false in first_of (cc, search rules, grind (arith, said))) in
    c.is_clients.ensures.0 here

pub send-requires-clause-numbers : goal.send-requires-clause-numbers
send-requires-clause-numbers g c =
    let may : c.can_raise.result ≡ true = (let said = c.if-not-can_raise.false in first_of (cc, search rules, grind (arith, said))) in
    c.can_raise.ensures.0 may

pub send-requires-clause-other : goal.send-requires-clause-other
send-requires-clause-other g c =
    let other : c.is_get.result ≡ false = (let said = c.if-is_get.false in first_of (cc, search rules, grind (arith, said))) in
    not_get c.args.event.now c.is_get.result c.is_get.ensures other

pub returns-clause-holds : goal.returns-clause-holds
returns-clause-holds g c = c.send.ensures.holds

pub returns-clause-outcome : goal.returns-clause-outcome
returns-clause-outcome g c = c.send.ensures.outcome

pub returns-clause-err : goal.returns-clause-err
returns-clause-err g c = c.send.ensures.err
