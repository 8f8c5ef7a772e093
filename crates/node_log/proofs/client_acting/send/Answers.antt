use Rattle.std.proofs.Common.{◌∙◌, refl}
use Rattle.node_log.proofs.BrokerActs.{ready_addressed, ready_log, ready_room}
use Rattle.node_log.proofs.ClientActs.{client_done, client_goes, client_grown, client_held, client_still, client_there, fits_unsent}
use Rattle.node_log.proofs.client_acting.send.Goals as goal

pub make_ready-requires : goal.make_ready-requires
make_ready-requires g c = record {
  peers = λ enabled.
      client_goes c.args.scenario.now.setup c.args.own.now c.args.log.now.history.items c.args.log.now.clock c.args.ends.now.rows.items g.E.End.shown c.args.event.now c.in_ok-prepared.prepared c.take_sent.new.self
      c.is_idle.result c.into_vec-outs.result.items c.requires.holds c.requires.at c.requires.other c.in_ok-prepared.ensures.seen c.take_sent.ensures.rest c.is_idle.ensures (c.into_vec-outs.ensures.items ∙ c.take_sent.ensures.sent) enabled;
}

pub returns-in_default-clause-outcome : goal.returns-in_default-clause-outcome
returns-in_default-clause-outcome g c =
    client_held c.args.scenario.now c.args.own.now c.args.log.now.history.items c.make_ready.new.log.history.items c.args.log.now.clock c.make_ready.new.log.clock c.args.event.now g.E.End.sent g.E.End.taken g.E.End.shown
    g.E.End.free g.E.End.looks g.E.End.fits c.in_ok-prepared.prepared c.take_sent.new.self c.is_idle.result c.into_vec-outs.result.items c.args.ends.now.rows.items c.make_ready.new.ends.rows.items c.in_ok-packed.field-0
    c.requires.at c.requires.other c.in_ok-prepared.ensures.seen c.take_sent.ensures.rest c.is_idle.ensures (c.into_vec-outs.ensures.items ∙ c.take_sent.ensures.sent) c.in_default.is c.in_ok-packed.ensures.unready c.make_ready.ensures.sends
    c.make_ready.ensures.takes c.make_ready.ensures.history c.make_ready.ensures.clock

pub returns-clause-holds : goal.returns-clause-holds
returns-clause-holds g c =
    client_grown c.args.scenario.now c.args.own.now (record { number = c.args.own.now.number; client = c.commit.new.self }) c.args.log.now.history.items c.make_ready.new.log.history.items c.finish.new.log.history.items
    c.args.log.now.clock c.make_ready.new.log.clock c.finish.new.log.clock c.args.event.now g.E.End.sent g.E.End.taken g.E.End.shown g.E.End.free g.E.End.fits c.in_ok-prepared.prepared c.take_sent.new.self
    c.is_idle.result c.into_vec-outs.result.items c.in-Some.packed c.args.ends.now.rows.items c.make_ready.new.ends.rows.items c.finish.new.ends.rows.items c.in_ok-packed.field-0 c.requires.holds c.requires.at
    c.requires.numbers c.requires.other c.in_ok-prepared.ensures.seen c.take_sent.ensures.rest c.is_idle.ensures (c.into_vec-outs.ensures.items ∙ c.take_sent.ensures.sent) c.in-Some.is c.in_ok-packed.ensures.ready c.make_ready.ensures.sends
    c.make_ready.ensures.takes c.make_ready.ensures.history c.make_ready.ensures.clock refl c.commit.ensures c.finish.ensures.finished c.finish.ensures.clock c.make_ready.ensures.peers c.finish.ensures.peers

pub returns-clause-outcome : goal.returns-clause-outcome
returns-clause-outcome g c =
    client_done c.args.scenario.now c.args.own.now (record { number = c.args.own.now.number; client = c.commit.new.self }) c.args.log.now.history.items c.make_ready.new.log.history.items c.finish.new.log.history.items
    c.args.log.now.clock c.make_ready.new.log.clock c.finish.new.log.clock c.args.event.now g.E.End.sent g.E.End.taken g.E.End.shown g.E.End.free g.E.End.fits c.in_ok-prepared.prepared c.take_sent.new.self
    c.is_idle.result c.into_vec-outs.result.items c.in-Some.packed c.args.ends.now.rows.items c.make_ready.new.ends.rows.items c.finish.new.ends.rows.items c.in_ok-packed.field-0 c.requires.holds c.requires.at
    c.requires.numbers c.requires.other c.in_ok-prepared.ensures.seen c.take_sent.ensures.rest c.is_idle.ensures (c.into_vec-outs.ensures.items ∙ c.take_sent.ensures.sent) c.in-Some.is c.in_ok-packed.ensures.ready c.make_ready.ensures.sends
    c.make_ready.ensures.takes c.make_ready.ensures.history c.make_ready.ensures.clock refl c.commit.ensures c.finish.ensures.finished c.finish.ensures.clock

pub prepare-requires : goal.prepare-requires
prepare-requires g c = record {
  there = client_there c.args.scenario.now.setup c.args.own.now c.args.log.now.history.items c.args.log.now.clock c.args.ends.now.rows.items c.requires.holds;
  at = c.requires.at;
  numbers = c.requires.numbers;
  other = c.requires.other;
}

pub commit-requires : goal.commit-requires
commit-requires g c = fits_unsent c.args.own.now.client c.in_ok-prepared.prepared c.take_sent.new.self c.in_ok-prepared.ensures.fits c.take_sent.ensures.rest

pub finish-requires : goal.finish-requires
finish-requires g c = record {
  room = ready_log c.in_ok-packed.field-0 c.in-Some.packed c.in-Some.is c.in_ok-packed.ensures.room;
  addressed = ready_addressed g.E.End.free g.E.End.fits c.is_idle.result _ c.into_vec-outs.result.items c.make_ready.new.ends.rows.items c.in_ok-packed.field-0 c.in-Some.packed c.in-Some.is c.in_ok-packed.ensures.ready;
  places = ready_room g.E.End.free g.E.End.fits c.is_idle.result _ c.into_vec-outs.result.items c.make_ready.new.ends.rows.items c.in_ok-packed.field-0 c.in-Some.packed c.in-Some.is c.in_ok-packed.ensures.ready;
}

pub returns-in_err-packed-clause-holds : goal.returns-in_err-packed-clause-holds
returns-in_err-packed-clause-holds g c =
    client_still c.args.scenario.now.setup c.args.own.now c.args.own.now c.args.log.now.history.items c.make_ready.new.log.history.items c.args.log.now.clock c.make_ready.new.log.clock
    c.args.ends.now.rows.items c.make_ready.new.ends.rows.items c.requires.holds refl c.make_ready.ensures.peers c.make_ready.ensures.history c.make_ready.ensures.clock

pub returns-in_default-clause-holds : goal.returns-in_default-clause-holds
returns-in_default-clause-holds g c =
    client_still c.args.scenario.now.setup c.args.own.now c.args.own.now c.args.log.now.history.items c.make_ready.new.log.history.items c.args.log.now.clock c.make_ready.new.log.clock
    c.args.ends.now.rows.items c.make_ready.new.ends.rows.items c.requires.holds refl c.make_ready.ensures.peers c.make_ready.ensures.history c.make_ready.ensures.clock
