use Rattle.std.proofs.Common.{◌∙◌}
use Rattle.broker.proofs.Ready.{ready_without}
use Rattle.node_log.proofs.BrokerActs.{broker_done, broker_goes, broker_grown, broker_held, broker_still, broker_still_late, ready_addressed, ready_log, ready_room}
use Rattle.node_log.proofs.broker_acting.act_by.Goals as goal

pub make_ready-requires : goal.make_ready-requires
make_ready-requires g c = record {
  peers = λ enabled.
      broker_goes c.args.scenario.now.setup c.args.node.now c.args.log.now.history.items c.args.log.now.clock c.args.ends.now.rows.items c.look.new.ends.rows.items c.args.event.now g.E.End.shown c.taken_from-from.result
      c.in_ok-shown.shown c.look.new.plan c.take_sent.new.self c.is_idle.result c.into_vec-outs.result.items c.requires.holds c.requires.at c.requires.can
      c.taken_from-from.ensures c.in_ok-shown.ensures.looked c.look.ensures.peers c.take_sent.ensures.rest c.is_idle.ensures (c.into_vec-outs.ensures.items ∙ c.take_sent.ensures.sent) enabled;
}

pub returns-in_default-clause-outcome : goal.returns-in_default-clause-outcome
returns-in_default-clause-outcome g c =
    broker_held c.args.scenario.now c.args.node.now c.look.new.node c.args.log.now.history.items c.make_ready.new.log.history.items c.args.log.now.clock c.make_ready.new.log.clock c.args.event.now
    g.E.End.sent g.E.End.taken g.E.End.shown g.E.End.free g.E.End.looks g.E.End.fits c.taken_from-from.result c.in_ok-shown.shown c.look.new.plan c.take_sent.new.self c.is_idle.result c.into_vec-outs.result.items
    c.args.ends.now.rows.items c.look.new.ends.rows.items c.make_ready.new.ends.rows.items c.in_ok-packed.field-0 c.requires.holds c.requires.at c.requires.can
    c.taken_from-from.ensures c.in_ok-shown.ensures.looked c.look.ensures.broker c.look.ensures.node c.in_ok-shown.ensures.looks c.look.ensures.rise c.look.ensures.sends c.look.ensures.taken
    c.take_sent.ensures.rest c.is_idle.ensures (c.into_vec-outs.ensures.items ∙ c.take_sent.ensures.sent) c.in_default.is c.in_ok-packed.ensures.unready c.make_ready.ensures.sends c.make_ready.ensures.takes c.make_ready.ensures.history c.make_ready.ensures.clock

pub returns-clause-holds : goal.returns-clause-holds
returns-clause-holds g c =
    broker_grown c.args.scenario.now c.args.node.now c.look.new.node c.commit.new.self c.args.log.now.history.items c.make_ready.new.log.history.items c.finish.new.log.history.items
    c.args.log.now.clock c.make_ready.new.log.clock c.finish.new.log.clock c.args.event.now g.E.End.sent g.E.End.taken g.E.End.shown g.E.End.free g.E.End.fits c.taken_from-from.result c.in_ok-shown.shown c.look.new.plan
    c.take_sent.new.self c.is_idle.result c.into_vec-outs.result.items c.in-Some.packed c.args.ends.now.rows.items c.look.new.ends.rows.items c.make_ready.new.ends.rows.items c.finish.new.ends.rows.items
    c.in_ok-packed.field-0 c.requires.holds c.requires.at c.requires.can c.taken_from-from.ensures c.in_ok-shown.ensures.looked c.look.ensures.broker c.look.ensures.node
    c.look.ensures.sends c.look.ensures.taken c.take_sent.ensures.rest c.is_idle.ensures (c.into_vec-outs.ensures.items ∙ c.take_sent.ensures.sent) c.in-Some.is c.in_ok-packed.ensures.ready c.make_ready.ensures.sends c.make_ready.ensures.takes
    c.make_ready.ensures.history c.make_ready.ensures.clock c.commit.ensures.broker c.commit.ensures.node c.finish.ensures.finished c.finish.ensures.clock c.look.ensures.peers c.make_ready.ensures.peers c.finish.ensures.peers

pub returns-clause-outcome : goal.returns-clause-outcome
returns-clause-outcome g c =
    broker_done c.args.scenario.now c.args.node.now c.look.new.node c.commit.new.self c.args.log.now.history.items c.make_ready.new.log.history.items c.finish.new.log.history.items
    c.args.log.now.clock c.make_ready.new.log.clock c.finish.new.log.clock c.args.event.now g.E.End.sent g.E.End.taken g.E.End.shown g.E.End.free g.E.End.fits c.taken_from-from.result c.in_ok-shown.shown c.look.new.plan
    c.take_sent.new.self c.is_idle.result c.into_vec-outs.result.items c.in-Some.packed c.args.ends.now.rows.items c.look.new.ends.rows.items c.make_ready.new.ends.rows.items c.finish.new.ends.rows.items
    c.in_ok-packed.field-0 c.requires.holds c.requires.at c.requires.can c.taken_from-from.ensures c.in_ok-shown.ensures.looked c.look.ensures.broker c.look.ensures.node
    c.look.ensures.sends c.look.ensures.taken c.take_sent.ensures.rest c.is_idle.ensures (c.into_vec-outs.ensures.items ∙ c.take_sent.ensures.sent) c.in-Some.is c.in_ok-packed.ensures.ready c.make_ready.ensures.sends c.make_ready.ensures.takes
    c.make_ready.ensures.history c.make_ready.ensures.clock c.commit.ensures.broker c.commit.ensures.node c.finish.ensures.finished c.finish.ensures.clock

pub look-requires : goal.look-requires
look-requires g c = record { node = c.requires.can.node; numbers = c.requires.can.numbers; empty = c.requires.empty }

pub commit-requires : goal.commit-requires
commit-requires g c = ready_without c.look.new.node c.look.new.plan c.take_sent.new.self c.in_ok-shown.ensures.ready c.take_sent.ensures.rest

pub finish-requires : goal.finish-requires
finish-requires g c = record {
  room = ready_log c.in_ok-packed.field-0 c.in-Some.packed c.in-Some.is c.in_ok-packed.ensures.room;
  addressed = ready_addressed g.E.End.free g.E.End.fits c.is_idle.result _ c.into_vec-outs.result.items c.make_ready.new.ends.rows.items c.in_ok-packed.field-0 c.in-Some.packed c.in-Some.is c.in_ok-packed.ensures.ready;
  places = ready_room g.E.End.free g.E.End.fits c.is_idle.result _ c.into_vec-outs.result.items c.make_ready.new.ends.rows.items c.in_ok-packed.field-0 c.in-Some.packed c.in-Some.is c.in_ok-packed.ensures.ready;
}

pub returns-in_err-shown-clause-holds : goal.returns-in_err-shown-clause-holds
returns-in_err-shown-clause-holds g c =
    broker_still c.args.scenario.now.setup c.args.node.now c.look.new.node c.args.log.now.history.items c.args.log.now.clock c.args.ends.now.rows.items c.look.new.ends.rows.items c.requires.holds
    c.look.ensures.broker c.look.ensures.node c.look.ensures.peers

pub returns-in_err-packed-clause-holds : goal.returns-in_err-packed-clause-holds
returns-in_err-packed-clause-holds g c =
    broker_still_late c.args.scenario.now.setup c.args.node.now c.look.new.node c.args.log.now.history.items c.make_ready.new.log.history.items c.args.log.now.clock c.make_ready.new.log.clock
    c.args.ends.now.rows.items c.look.new.ends.rows.items c.make_ready.new.ends.rows.items c.requires.holds
    c.look.ensures.broker c.look.ensures.node c.look.ensures.peers c.make_ready.ensures.peers c.make_ready.ensures.history c.make_ready.ensures.clock

pub returns-in_default-clause-holds : goal.returns-in_default-clause-holds
returns-in_default-clause-holds g c =
    broker_still_late c.args.scenario.now.setup c.args.node.now c.look.new.node c.args.log.now.history.items c.make_ready.new.log.history.items c.args.log.now.clock c.make_ready.new.log.clock
    c.args.ends.now.rows.items c.look.new.ends.rows.items c.make_ready.new.ends.rows.items c.requires.holds
    c.look.ensures.broker c.look.ensures.node c.look.ensures.peers c.make_ready.ensures.peers c.make_ready.ensures.history c.make_ready.ensures.clock
