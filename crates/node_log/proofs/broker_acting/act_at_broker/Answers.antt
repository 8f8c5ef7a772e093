use Rattle.std.proofs.Common.{◌≡◌, false, true, arith, rules}
use Rattle.node_log.proofs.BrokerActs.{broker_elsewhere, broker_no_number}
use Rattle.node_log.proofs.broker_acting.act_at_broker.Goals as goal

pub returns-then-not-is_brokers-clause-holds : goal.returns-then-not-is_brokers-clause-holds
returns-then-not-is_brokers-clause-holds g c = c.requires

pub returns-then-not-is_brokers-clause-outcome : goal.returns-then-not-is_brokers-clause-outcome
returns-then-not-is_brokers-clause-outcome g c =
    let fails : c.is_brokers.result ≡ false = (let said = c.if-not-is_brokers.true in first_of (cc, search rules, grind (arith, said))) in
    broker_elsewhere c.args.scenario.now c.args.node.now c.args.log.now.history.items c.args.log.now.clock c.args.ends.now.rows.items c.args.event.now g.E.End.sent g.E.End.taken g.E.End.shown g.E.End.free g.E.End.looks g.E.End.fits c.is_brokers.result c.is_brokers.ensures fails

pub returns-then-not-accepts-clause-holds : goal.returns-then-not-accepts-clause-holds
returns-then-not-accepts-clause-holds g c = c.requires

pub returns-then-not-accepts-clause-outcome : goal.returns-then-not-accepts-clause-outcome
returns-then-not-accepts-clause-outcome g c =
    let here : c.is_brokers.result ≡ true = (let said = c.if-not-is_brokers.false in first_of (cc, search rules, grind (arith, said))) in
    let fails : c.accepts.result ≡ false = (let said = c.if-not-accepts.true in first_of (cc, search rules, grind (arith, said))) in
    broker_no_number c.args.scenario.now c.args.node.now c.args.log.now.history.items c.args.log.now.clock c.args.ends.now.rows.items c.args.event.now g.E.End.sent g.E.End.taken g.E.End.shown g.E.End.free g.E.End.looks g.E.End.fits c.is_brokers.result c.accepts.result
    c.requires c.is_brokers.ensures here c.accepts.ensures fails

pub act_by-acted-requires-clause-holds : goal.act_by-acted-requires-clause-holds
act_by-acted-requires-clause-holds g c = c.requires

pub act_by-acted-requires-clause-at : goal.act_by-acted-requires-clause-at
act_by-acted-requires-clause-at g c =
    let here : c.is_brokers.result ≡ true = (let said = c.if-not-is_brokers.false in first_of (cc, search rules, grind (arith, said))) in
    c.is_brokers.ensures.0 here

pub act_by-acted-requires-clause-can : goal.act_by-acted-requires-clause-can
act_by-acted-requires-clause-can g c =
    let may : c.accepts.result ≡ true = (let said = c.if-not-accepts.false in first_of (cc, search rules, grind (arith, said))) in
    c.accepts.ensures.0 may

pub returns-clause-holds : goal.returns-clause-holds
returns-clause-holds g c = c.act_by-acted.ensures.holds

pub returns-clause-outcome : goal.returns-clause-outcome
returns-clause-outcome g c = c.act_by-acted.ensures.outcome

pub returns-clause-err : goal.returns-clause-err
returns-clause-err g c = c.act_by-acted.ensures.err
