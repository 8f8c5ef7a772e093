use Rattle.std.specs.Arc.{arc_value}
use Rattle.node_log.specs.declared.state.NodeState.TheVariants as kept
use Rattle.node_log.proofs.Borrowed.{borrowed_is, borrowed_was}
use Rattle.node_log.proofs.Outcomes.{acted_of, err_of, held_of, holds_back, holds_by, same_of}
use Rattle.node_log.proofs.logged.NodeLog.act.Goals as goal

pub act_at_broker-requires : goal.act_at_broker-requires
act_at_broker-requires g c =
    holds_by (arc_value c.self.inside.scenario) c.deref.result.now c.self.inside.state (kept.Broker c.in-Broker.node) c.self.inside.log.history.items c.self.inside.log.clock c.self.inside.ends.rows.items c.self.invariant c.deref.ensures c.in-Broker.is

pub invariant_of-self : goal.invariant_of-self
invariant_of-self g c =
    holds_back (arc_value c.self.inside.scenario) c.deref.result.now (kept.Broker c.act_at_broker.new.node) c.act_at_broker.new.log.history.items c.act_at_broker.new.log.clock c.act_at_broker.new.ends.rows.items c.act_at_broker.ensures.holds c.deref.ensures

pub returns-in-Broker-clause-acted : goal.returns-in-Broker-clause-acted
returns-in-Broker-clause-acted g c =
    let before = borrowed_was (arc_value c.self.inside.scenario) c.deref.result.now c.self.inside.state (kept.Broker c.in-Broker.node) c.self.inside.log.history.items c.self.inside.log.clock c.self.inside.ends.rows.items c.args.self.now c.deref.ensures c.in-Broker.is c.self.view_is in
    let after = borrowed_is (arc_value c.self.inside.scenario) c.deref.result.now (kept.Broker c.act_at_broker.new.node) c.act_at_broker.new.log.history.items c.act_at_broker.new.log.clock c.act_at_broker.new.ends.rows.items c.deref.ensures in
    acted_of g.E.End.sent g.E.End.taken g.E.End.shown g.E.End.free g.E.End.looks g.E.End.fits c.args.event.now c.args.self.now _ _ _ c.act_at_broker.result c.act_at_broker.ensures.outcome before after

pub returns-in-Broker-clause-held : goal.returns-in-Broker-clause-held
returns-in-Broker-clause-held g c =
    let before = borrowed_was (arc_value c.self.inside.scenario) c.deref.result.now c.self.inside.state (kept.Broker c.in-Broker.node) c.self.inside.log.history.items c.self.inside.log.clock c.self.inside.ends.rows.items c.args.self.now c.deref.ensures c.in-Broker.is c.self.view_is in
    let after = borrowed_is (arc_value c.self.inside.scenario) c.deref.result.now (kept.Broker c.act_at_broker.new.node) c.act_at_broker.new.log.history.items c.act_at_broker.new.log.clock c.act_at_broker.new.ends.rows.items c.deref.ensures in
    held_of g.E.End.sent g.E.End.taken g.E.End.shown g.E.End.free g.E.End.looks g.E.End.fits c.args.event.now c.args.self.now _ _ _ c.act_at_broker.result c.act_at_broker.ensures.outcome before after

pub returns-in-Broker-clause-same : goal.returns-in-Broker-clause-same
returns-in-Broker-clause-same g c =
    let before = borrowed_was (arc_value c.self.inside.scenario) c.deref.result.now c.self.inside.state (kept.Broker c.in-Broker.node) c.self.inside.log.history.items c.self.inside.log.clock c.self.inside.ends.rows.items c.args.self.now c.deref.ensures c.in-Broker.is c.self.view_is in
    let after = borrowed_is (arc_value c.self.inside.scenario) c.deref.result.now (kept.Broker c.act_at_broker.new.node) c.act_at_broker.new.log.history.items c.act_at_broker.new.log.clock c.act_at_broker.new.ends.rows.items c.deref.ensures in
    same_of g.E.End.sent g.E.End.taken g.E.End.shown g.E.End.free g.E.End.looks g.E.End.fits c.args.event.now c.args.self.now _ _ _ c.act_at_broker.result c.act_at_broker.ensures.outcome before after

pub returns-in-Broker-clause-err : goal.returns-in-Broker-clause-err
returns-in-Broker-clause-err g c =
    let before = borrowed_was (arc_value c.self.inside.scenario) c.deref.result.now c.self.inside.state (kept.Broker c.in-Broker.node) c.self.inside.log.history.items c.self.inside.log.clock c.self.inside.ends.rows.items c.args.self.now c.deref.ensures c.in-Broker.is c.self.view_is in
    let after = borrowed_is (arc_value c.self.inside.scenario) c.deref.result.now (kept.Broker c.act_at_broker.new.node) c.act_at_broker.new.log.history.items c.act_at_broker.new.log.clock c.act_at_broker.new.ends.rows.items c.deref.ensures in
    err_of g.E.End.sent g.E.End.taken c.args.self.now _ _ _ c.act_at_broker.result c.act_at_broker.ensures.err before after

pub act_at_client-requires : goal.act_at_client-requires
act_at_client-requires g c =
    holds_by (arc_value c.self.inside.scenario) c.deref-in-Client.result.now c.self.inside.state (kept.Client c.in-Client.client) c.self.inside.log.history.items c.self.inside.log.clock c.self.inside.ends.rows.items c.self.invariant c.deref-in-Client.ensures c.in-Client.is

pub invariant_of-self-in-Client : goal.invariant_of-self-in-Client
invariant_of-self-in-Client g c =
    holds_back (arc_value c.self.inside.scenario) c.deref-in-Client.result.now (kept.Client c.act_at_client.new.own) c.act_at_client.new.log.history.items c.act_at_client.new.log.clock c.act_at_client.new.ends.rows.items c.act_at_client.ensures.holds c.deref-in-Client.ensures

pub returns-in-Client-clause-acted : goal.returns-in-Client-clause-acted
returns-in-Client-clause-acted g c =
    let before = borrowed_was (arc_value c.self.inside.scenario) c.deref-in-Client.result.now c.self.inside.state (kept.Client c.in-Client.client) c.self.inside.log.history.items c.self.inside.log.clock c.self.inside.ends.rows.items c.args.self.now c.deref-in-Client.ensures c.in-Client.is c.self.view_is in
    let after = borrowed_is (arc_value c.self.inside.scenario) c.deref-in-Client.result.now (kept.Client c.act_at_client.new.own) c.act_at_client.new.log.history.items c.act_at_client.new.log.clock c.act_at_client.new.ends.rows.items c.deref-in-Client.ensures in
    acted_of g.E.End.sent g.E.End.taken g.E.End.shown g.E.End.free g.E.End.looks g.E.End.fits c.args.event.now c.args.self.now _ _ _ c.act_at_client.result c.act_at_client.ensures.outcome before after

pub returns-in-Client-clause-held : goal.returns-in-Client-clause-held
returns-in-Client-clause-held g c =
    let before = borrowed_was (arc_value c.self.inside.scenario) c.deref-in-Client.result.now c.self.inside.state (kept.Client c.in-Client.client) c.self.inside.log.history.items c.self.inside.log.clock c.self.inside.ends.rows.items c.args.self.now c.deref-in-Client.ensures c.in-Client.is c.self.view_is in
    let after = borrowed_is (arc_value c.self.inside.scenario) c.deref-in-Client.result.now (kept.Client c.act_at_client.new.own) c.act_at_client.new.log.history.items c.act_at_client.new.log.clock c.act_at_client.new.ends.rows.items c.deref-in-Client.ensures in
    held_of g.E.End.sent g.E.End.taken g.E.End.shown g.E.End.free g.E.End.looks g.E.End.fits c.args.event.now c.args.self.now _ _ _ c.act_at_client.result c.act_at_client.ensures.outcome before after

pub returns-in-Client-clause-same : goal.returns-in-Client-clause-same
returns-in-Client-clause-same g c =
    let before = borrowed_was (arc_value c.self.inside.scenario) c.deref-in-Client.result.now c.self.inside.state (kept.Client c.in-Client.client) c.self.inside.log.history.items c.self.inside.log.clock c.self.inside.ends.rows.items c.args.self.now c.deref-in-Client.ensures c.in-Client.is c.self.view_is in
    let after = borrowed_is (arc_value c.self.inside.scenario) c.deref-in-Client.result.now (kept.Client c.act_at_client.new.own) c.act_at_client.new.log.history.items c.act_at_client.new.log.clock c.act_at_client.new.ends.rows.items c.deref-in-Client.ensures in
    same_of g.E.End.sent g.E.End.taken g.E.End.shown g.E.End.free g.E.End.looks g.E.End.fits c.args.event.now c.args.self.now _ _ _ c.act_at_client.result c.act_at_client.ensures.outcome before after

pub returns-in-Client-clause-err : goal.returns-in-Client-clause-err
returns-in-Client-clause-err g c =
    let before = borrowed_was (arc_value c.self.inside.scenario) c.deref-in-Client.result.now c.self.inside.state (kept.Client c.in-Client.client) c.self.inside.log.history.items c.self.inside.log.clock c.self.inside.ends.rows.items c.args.self.now c.deref-in-Client.ensures c.in-Client.is c.self.view_is in
    let after = borrowed_is (arc_value c.self.inside.scenario) c.deref-in-Client.result.now (kept.Client c.act_at_client.new.own) c.act_at_client.new.log.history.items c.act_at_client.new.log.clock c.act_at_client.new.ends.rows.items c.deref-in-Client.ensures in
    err_of g.E.End.sent g.E.End.taken c.args.self.now _ _ _ c.act_at_client.result c.act_at_client.ensures.err before after
