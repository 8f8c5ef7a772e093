use Rattle.std.proofs.lemmas.Result.{err_from_is_err_and}
use Rattle.world.proofs.Observing.{halt_comes, halt_seen, plain_comes, plain_seen, settled_comes, settled_ends, step_settled_seen, stop_comes, stop_seen}
use Rattle.world.proofs.world.World.step_with.Goals as goal

pub returns-in-Plain-clause-comes : goal.returns-in-Plain-clause-comes
returns-in-Plain-clause-comes g c = λ w reached stands.
    plain_comes c.args.scenario.now.setup c.args.self.now c.event.new.world w c.args.step.now c.in-Plain.event c.event.result c.in-Plain.is stands
    (c.event.ensures.leads w reached stands) c.event.ensures.past

pub returns-in-Plain-clause-seen : goal.returns-in-Plain-clause-seen
returns-in-Plain-clause-seen g c = λ w reached stands.
    plain_seen g.O.Observer.sight c.args.scenario.now.setup c.args.self.now c.event.new.world w c.args.step.now c.in-Plain.event (g.O.Observer.seen c.args.observer.now) (g.O.Observer.seen c.event.new.self)
    c.event.result c.in-Plain.is stands (c.event.ensures.leads w reached stands) c.event.ensures.past (c.event.ensures.seen w reached stands)

pub returns-in-Halt-clause-comes : goal.returns-in-Halt-clause-comes
returns-in-Halt-clause-comes g c = λ w reached stands.
    halt_comes c.args.scenario.now.setup c.args.self.now c.halt.new.world w c.args.step.now c.in-Halt.writes c.in-Halt.event c.halt.result c.in-Halt.is stands
    (c.halt.ensures.leads w reached stands) c.halt.ensures.past

pub returns-in-Halt-clause-seen : goal.returns-in-Halt-clause-seen
returns-in-Halt-clause-seen g c = λ w reached stands.
    halt_seen g.O.Observer.sight c.args.scenario.now.setup c.args.self.now c.halt.new.world w c.args.step.now c.in-Halt.writes c.in-Halt.event (g.O.Observer.seen c.args.observer.now) (g.O.Observer.seen c.halt.new.self)
    c.halt.result c.in-Halt.is stands (c.halt.ensures.leads w reached stands) c.halt.ensures.past (c.halt.ensures.seen w reached stands)

pub returns-in_ok-_rounds-in-Settle-clause-comes : goal.returns-in_ok-_rounds-in-Settle-clause-comes
returns-in_ok-_rounds-in-Settle-clause-comes g c = λ w reached stands.
    settled_comes c.args.scenario.now.setup c.settle_with.new.self w c.args.step.now c.in_ok-_rounds-in-Settle._rounds tt c.in-Settle.is
    (c.in_ok-_rounds-in-Settle.ensures.comes w reached stands)

pub returns-in_ok-_rounds-in-Settle-clause-seen : goal.returns-in_ok-_rounds-in-Settle-clause-seen
returns-in_ok-_rounds-in-Settle-clause-seen g c = λ w reached stands.
    step_settled_seen g.O.Observer.sight c.args.scenario.now.setup w c.args.step.now (g.O.Observer.seen c.args.observer.now) (g.O.Observer.seen c.settle_with.new.observer) c.in-Settle.is
    (c.in_ok-_rounds-in-Settle.ensures.comes w reached stands).done.1 (c.in_ok-_rounds-in-Settle.ensures.seen w reached stands)

pub returns-in_err-_rounds-in-Settle-clause-comes : goal.returns-in_err-_rounds-in-Settle-clause-comes
returns-in_err-_rounds-in-Settle-clause-comes g c = λ w reached stands.
    let p = err_from_is_err_and c.from_residual.result c.from_residual.ensures.1 in
    rw (p.1, p.2)
    (settled_ends c.args.scenario.now.setup c.settle_with.new.self w c.args.step.now c.in_err-_rounds-in-Settle.field-0.0 c.in-Settle.is
    (c.in_err-_rounds-in-Settle.ensures.comes w reached stands))

pub returns-in-Stop-clause-comes : goal.returns-in-Stop-clause-comes
returns-in-Stop-clause-comes g c = λ w reached stands.
    stop_comes c.args.scenario.now.setup c.args.self.now c.stop.new.world w c.args.step.now c.stop.result c.in-Stop.is stands
    (c.stop.ensures.leads w reached stands) c.stop.ensures.past

pub returns-in-Stop-clause-seen : goal.returns-in-Stop-clause-seen
returns-in-Stop-clause-seen g c = λ w reached stands.
    stop_seen g.O.Observer.sight c.args.scenario.now.setup c.args.self.now c.stop.new.world w c.args.step.now (g.O.Observer.seen c.args.observer.now) (g.O.Observer.seen c.stop.new.self)
    c.stop.result c.in-Stop.is stands (c.stop.ensures.leads w reached stands) c.stop.ensures.past (c.stop.ensures.seen w reached stands)
