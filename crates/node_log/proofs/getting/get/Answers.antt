use Rattle.std.proofs.Common.{le_refl, refl}
use Rattle.std.proofs.lemmas.Result.{err_from_is_err_and}
use Rattle.geo_base.specs.declared.packet.Peer.TheVariants as peer
use Rattle.node_log.proofs.ClientActs.{client_counts, client_err, client_still, client_there, get_done, get_grown, get_held, none_stays}
use Rattle.node_log.proofs.getting.get.Goals as goal

pub returns-in_default-clause-outcome : goal.returns-in_default-clause-outcome
returns-in_default-clause-outcome g c =
    get_held c.args.scenario.now c.args.own.now c.get_from.new.own c.args.log.now.history.items c.reserve.new.self.items c.args.log.now.clock c.args.event.now g.E.End.sent g.E.End.taken g.E.End.shown g.E.End.free g.E.End.looks g.E.End.fits
    c.view.result (peer.Broker c.view.result.cluster) c.args.ends.now.rows.items c.get_from.new.ends.rows.items c.in_ok-last.field-0 c.requires.get c.view.ensures refl c.in_default.is
    c.in_ok-last.ensures.none c.in_ok-last.ensures.stays c.in_ok-last.ensures.looks c.get_from.ensures.sends c.get_from.ensures.taken c.reserve.ensures.items

pub returns-clause-holds : goal.returns-clause-holds
returns-clause-holds g c =
    get_grown c.args.scenario.now c.args.own.now c.get_from.new.own c.args.log.now.history.items c.reserve.new.self.items c.finish.new.log.history.items c.args.log.now.clock c.finish.new.log.clock c.args.event.now
    g.E.End.sent g.E.End.taken g.E.End.shown g.E.End.free g.E.End.fits c.view.result (peer.Broker c.view.result.cluster) c.in-Some.last c.new.result (record { stamp = c.new.result; sent = c.new-2.result; parcels = c.new-3.result })
    c.args.ends.now.rows.items c.get_from.new.ends.rows.items c.finish.new.ends.rows.items c.in_ok-last.field-0 c.requires.holds c.requires.at c.requires.numbers c.requires.get c.view.ensures refl c.in-Some.is
    c.in_ok-last.ensures.got c.get_from.ensures.sends c.get_from.ensures.taken c.reserve.ensures.items c.get_from.ensures.number c.new.ensures refl c.new-2.ensures.items c.new-3.ensures.items c.finish.ensures.finished
    c.finish.ensures.clock c.get_from.ensures.peers c.finish.ensures.peers

pub returns-clause-outcome : goal.returns-clause-outcome
returns-clause-outcome g c =
    get_done c.args.scenario.now c.args.own.now c.get_from.new.own c.args.log.now.history.items c.reserve.new.self.items c.finish.new.log.history.items c.args.log.now.clock c.finish.new.log.clock c.args.event.now
    g.E.End.sent g.E.End.taken g.E.End.shown g.E.End.free g.E.End.fits c.view.result (peer.Broker c.view.result.cluster) c.in-Some.last c.new.result (record { stamp = c.new.result; sent = c.new-2.result; parcels = c.new-3.result })
    c.args.ends.now.rows.items c.get_from.new.ends.rows.items c.finish.new.ends.rows.items c.in_ok-last.field-0 c.requires.holds c.requires.at c.requires.numbers c.requires.get c.view.ensures refl c.in-Some.is
    c.in_ok-last.ensures.got c.get_from.ensures.sends c.get_from.ensures.taken c.reserve.ensures.items c.get_from.ensures.number c.new.ensures refl c.new-2.ensures.items c.new-3.ensures.items c.finish.ensures.finished
    c.finish.ensures.clock

pub get_from-requires-clause-there : goal.get_from-requires-clause-there
get_from-requires-clause-there g c = client_there c.args.scenario.now.setup c.args.own.now c.args.log.now.history.items c.args.log.now.clock c.args.ends.now.rows.items c.requires.holds

pub get_from-requires-clause-counts : goal.get_from-requires-clause-counts
get_from-requires-clause-counts g c = client_counts c.args.own.now.client c.args.event.now c.requires.numbers c.requires.get

pub returns-in_err-reserve-clause-holds : goal.returns-in_err-reserve-clause-holds
returns-in_err-reserve-clause-holds g c =
    client_still c.args.scenario.now.setup c.args.own.now c.args.own.now c.args.log.now.history.items c.reserve.new.self.items c.args.log.now.clock c.args.log.now.clock c.args.ends.now.rows.items c.args.ends.now.rows.items c.requires.holds
    refl (λ q. refl) c.reserve.ensures.items refl

pub returns-in_err-reserve-clause-err : goal.returns-in_err-reserve-clause-err
returns-in_err-reserve-clause-err g c =
    let p = err_from_is_err_and c.from_residual.result c.from_residual.ensures.1 in
    rw p.1 (client_err c.args.scenario.now c.args.own.now c.args.own.now c.args.log.now.history.items c.reserve.new.self.items c.args.log.now.clock c.args.log.now.clock g.E.End.sent g.E.End.taken g.E.End.free c.args.ends.now.rows.items c.args.ends.now.rows.items
    refl (record { sent = λ q. refl; free = λ q. le_refl _ }) (λ q. refl) c.reserve.ensures.items refl)

pub returns-in_err-last-clause-holds : goal.returns-in_err-last-clause-holds
returns-in_err-last-clause-holds g c =
    client_still c.args.scenario.now.setup c.args.own.now c.get_from.new.own c.args.log.now.history.items c.reserve.new.self.items c.args.log.now.clock c.args.log.now.clock c.args.ends.now.rows.items c.get_from.new.ends.rows.items c.requires.holds
    c.in_err-last.ensures.err c.get_from.ensures.peers c.reserve.ensures.items refl

pub returns-in_err-last-clause-err : goal.returns-in_err-last-clause-err
returns-in_err-last-clause-err g c =
    let p = err_from_is_err_and c.from_residual-in_err-last.result c.from_residual-in_err-last.ensures.1 in
    rw p.1 (client_err c.args.scenario.now c.args.own.now c.get_from.new.own c.args.log.now.history.items c.reserve.new.self.items c.args.log.now.clock c.args.log.now.clock g.E.End.sent g.E.End.taken g.E.End.free c.args.ends.now.rows.items c.get_from.new.ends.rows.items
    c.in_err-last.ensures.err c.get_from.ensures.sends c.get_from.ensures.taken c.reserve.ensures.items refl)

pub returns-in_default-clause-holds : goal.returns-in_default-clause-holds
returns-in_default-clause-holds g c =
    client_still c.args.scenario.now.setup c.args.own.now c.get_from.new.own c.args.log.now.history.items c.reserve.new.self.items c.args.log.now.clock c.args.log.now.clock c.args.ends.now.rows.items c.get_from.new.ends.rows.items c.requires.holds
    (none_stays c.args.own.now c.get_from.new.own c.in_ok-last.field-0 c.in_default.is c.in_ok-last.ensures.stays) c.get_from.ensures.peers c.reserve.ensures.items refl
