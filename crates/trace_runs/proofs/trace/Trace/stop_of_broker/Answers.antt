use Rattle.std.proofs.Common.{refl}
use Rattle.std.proofs.lemmas.Result.{err_from_is_err_and}
use Rattle.world.specs.World.{node_at}
use Rattle.kept_laws.specs.Events.{node_of}
use Rattle.world.proofs.Acting.{broker_of, stands_from}
use Rattle.trace_runs.proofs.Knowing.{halt_known, same_known}
use Rattle.trace_runs.proofs.ItemsTold.{always, halt_told, leads_from, leads_wants, past_from}
use Rattle.trace_runs.proofs.trace.Trace.stop_of_broker.Goals as goal

pub tell_at-requires : goal.tell_at-requires
tell_at-requires c = record {
  at = c.prepare_halt.ensures.at;
  tables = same_known c.args.scenario.now.setup c.args.self.now.telling.snapshots c.args.world.now c.prepare_halt.new.self c.prepare_halt.ensures.same c.requires.tables;
  broker = c.requires.broker;
  scripted = c.requires.scripted;
  broker_ref = broker_of c.args.scenario.now.setup c.args.world.now.links c.args.event.now c.broker_ref-broker_ref.result c.broker_ref-broker_ref.ensures;
  foreseen = c.in_ok-prepare_halt.ensures.foreseen;
}

pub returns-in_err-prepare_halt-clause-leads : goal.returns-in_err-prepare_halt-clause-leads
returns-in_err-prepare_halt-clause-leads c = λ w reached stands.
    let p = err_from_is_err_and c.from_residual.result c.from_residual.ensures.1 in
    rw (p.1, p.2) (leads_wants c.args.scenario.now.setup c.args.world.now c.prepare_halt.new.self _)

pub returns-in_err-tell_at-clause-leads : goal.returns-in_err-tell_at-clause-leads
returns-in_err-tell_at-clause-leads c = λ w reached stands.
    let p = err_from_is_err_and c.from_residual-in_err-tell_at.result c.from_residual-in_err-tell_at.ensures.1 in
    rw (p.1, p.2) (leads_wants c.args.scenario.now.setup c.args.world.now c.prepare_halt.new.self _)

pub halt-requires : goal.halt-requires
halt-requires c = record { at = c.prepare_halt.ensures.at; broker = c.requires.broker; scripted = c.requires.scripted }

pub returns-clause-told : goal.returns-clause-told
returns-clause-told c = λ w reached stands.
    let s = c.args.scenario.now.setup in let mid = c.prepare_halt.new.self in let e = c.args.event.now in
    let there = stands_from s c.args.world.now mid w c.prepare_halt.ensures.same stands in
    always _ c.halt.result
    (halt_told s w e (node_at mid.brokers (node_of s e)) c.prepare_halt.new.plan c.args.writes w.events c.args.self.now.telling.text c.tell_at.new.self.telling.text c.requires.broker c.requires.scripted
    (c.in_ok-prepare_halt.ensures.foreseen w reached there) refl (c.in_ok-tell_at.ensures.told w reached there))

pub returns-clause-leads : goal.returns-clause-leads
returns-clause-leads c = λ w reached stands.
    let s = c.args.scenario.now.setup in let mid = c.prepare_halt.new.self in
    leads_from s c.args.world.now mid c.halt.new.self _ c.halt.result (c.halt.ensures.leads w reached (stands_from s c.args.world.now mid w c.prepare_halt.ensures.same stands))

pub returns-clause-tables : goal.returns-clause-tables
returns-clause-tables c =
    let s = c.args.scenario.now.setup in let mid = c.prepare_halt.new.self in let h = c.prepare_halt.ensures.at in
    halt_known s c.tell_at.new.self.telling.snapshots mid c.halt.new.self h.world c.args.writes c.args.event.now c.halt.result h.stands c.in_ok-tell_at.ensures.tables (c.halt.ensures.leads h.world h.reached h.stands)

pub returns-clause-past : goal.returns-clause-past
returns-clause-past c = past_from c.args.world.now c.prepare_halt.new.self c.halt.new.self c.halt.result c.prepare_halt.ensures.same c.halt.ensures.err
