use Rattle.std.proofs.lemmas.Result.{err_from_is_err_and}
use Rattle.geo_base.specs.declared.event.Event.TheVariants as event
use Rattle.world.proofs.Observing.{each_done, each_ended, each_next}
use Rattle.world.proofs.SettlingSteps.{each_first, later_on}
use Rattle.world.proofs.world.World.settle_each.Goals as goal

pub settling-requires : goal.settling-requires
settling-requires g c = record {
  at = c.loop-event.invariant.at;
  knows = c.loop-event.invariant.knows;
  event = c.requires.each c.loop-event.event-index (event.Go 0) c.loop-event-test.true;
}

pub loop-event-init : goal.loop-event-init
loop-event-init g c = record { sees = λ r all h. h; at = c.requires.at; knows = c.requires.knows; later = each_first c.args.self.now }

pub loop-event-preserved : goal.loop-event-preserved
loop-event-preserved g c =
    let h = c.loop-event.invariant in let seen = g.O.Observer.seen in
    record {
      sees = λ r all before.
          each_next g.O.Observer.sight c.args.scenario.now.setup c.loop-event.self c.settling.new.world (seen c.loop-event.observer) (seen c.settling.new.self) c.args.events.now c.loop-event.event-index (event.Go 0) r all
          c.settling.result c.in_ok-settling.field-0 c.loop-event-test.true c.in_ok-settling.was (h.sees r all before) c.settling.ensures.leads c.settling.ensures.seen;
      at = c.settling.ensures.at;
      knows = c.in_ok-settling.ensures.knows;
      later = later_on c.args.self.now c.loop-event.self c.settling.new.world h.later c.settling.ensures.later;
    }

pub returns-in_err-settling : goal.returns-in_err-settling
returns-in_err-settling g c =
    let h = c.loop-event.invariant in let seen = g.O.Observer.seen in
    let p = err_from_is_err_and c.from_residual.result c.from_residual.ensures.1 in
    record {
      sees = λ r all before.
          rw (p.1, p.2)
          (each_ended g.O.Observer.sight c.args.scenario.now.setup c.loop-event.self c.settling.new.world (seen c.loop-event.observer) (seen c.settling.new.self) c.args.events.now c.loop-event.event-index (event.Go 0) r all
          c.settling.result c.in_err-settling.field-0.0 c.loop-event-test.true c.in_err-settling.was (h.sees r all before) c.settling.ensures.leads c.settling.ensures.past);
      at = c.settling.ensures.at;
      knows = rw p.1 tt;
      later = later_on c.args.self.now c.loop-event.self c.settling.new.world h.later c.settling.ensures.later;
    }

pub returns : goal.returns
returns g c =
    let h = c.loop-event.invariant in
    record {
      sees = λ r all before. each_done g.O.Observer.sight c.args.scenario.now.setup c.loop-event.self (g.O.Observer.seen c.loop-event.observer) c.args.events.now c.loop-event.event-index r all tt c.loop-event-test.false (h.sees r all before);
      at = h.at;
      knows = h.knows;
      later = h.later;
    }
