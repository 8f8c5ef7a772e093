use Rattle.std.proofs.Common.{ℕ, ◌+◌, ◌∷◌, [], ◌++◌, ap, sym, ◌∙◌}
use Rattle.std.proofs.lemmas.Result.{err_from_is_err_and}
use Rattle.std.specs.Prelude.{Ok}
use Rattle.geo_base.specs.TraceItems.{Begins}
use Rattle.geo_base.specs.TraceText.{item_line}
use Rattle.world.proofs.Observing.{past_wants}
use Rattle.trace_runs.proofs.Knowing.{event_known}
use Rattle.trace_runs.proofs.ItemsTold.{client_still, client_told, leads_wants}
use Rattle.trace_runs.proofs.trace.Trace.client_event.Goals as goal

pub returns-in_err-event-clause-leads : goal.returns-in_err-event-clause-leads
returns-in_err-event-clause-leads c = λ w reached stands.
    let p = err_from_is_err_and c.from_residual.result c.from_residual.ensures.1 in
    rw (p.1, p.2) (c.in_err-event.ensures.leads w reached stands)

pub returns-in_err-event-clause-past : goal.returns-in_err-event-clause-past
returns-in_err-event-clause-past c = λ n is. c.in_err-event.ensures.err

pub returns-then-events-before-clause-told : goal.returns-then-events-before-clause-told
returns-then-events-before-clause-told c = λ w reached stands.
    client_still c.args.scenario.now.setup c.args.world.now c.event.new.self w c.args.event.now c.args.self.now.telling.text tt c.requires.client stands (c.in_ok-event.ensures.leads w reached stands)
    (sym c.events.ensures.events ∙ (c.if-events-before.true ∙ c.events-before.ensures.events))

pub returns-in_err-add_begin-clause-leads : goal.returns-in_err-add_begin-clause-leads
returns-in_err-add_begin-clause-leads c = λ w reached stands.
    let p = err_from_is_err_and c.from_residual-in_err-add_begin.result c.from_residual-in_err-add_begin.ensures.1 in
    rw (p.1, p.2) (leads_wants c.args.scenario.now.setup c.args.world.now c.event.new.self _)

pub returns-in_err-add_begin-clause-past : goal.returns-in_err-add_begin-clause-past
returns-in_err-add_begin-clause-past c = λ n.
    let p = err_from_is_err_and c.from_residual-in_err-add_begin.result c.from_residual-in_err-add_begin.ensures.1 in
    rw (p.1, p.2) (past_wants _ n)

pub returns-clause-told : goal.returns-clause-told
returns-clause-told c = λ w reached stands.
    let s = c.args.scenario.now.setup in let text = c.args.self.now.telling.text in
    client_told s c.args.world.now c.event.new.self w c.args.event.now text c.add_begin.new.lines tt c.requires.client stands (c.in_ok-event.ensures.leads w reached stands)
    (λ same. c.if-events-before.false (c.events.ensures.events ∙ (same ∙ sym c.events-before.ensures.events)))
    (c.in_ok-add_begin.ensures.ok s ∙ ap (λ (n : ℕ). text ++ (item_line s (Begins (n + 1)) ++ 10 ∷ [])) c.events-before.ensures.events)

pub returns-then-events-before-clause-tables : goal.returns-then-events-before-clause-tables
returns-then-events-before-clause-tables c =
    let h = c.requires.at in
    event_known c.args.scenario.now.setup c.args.self.now.telling.snapshots c.args.world.now c.event.new.self h.world c.args.event.now (Ok tt) h.stands c.requires.tables
    (c.in_ok-event.ensures.leads h.world h.reached h.stands)

pub returns-clause-tables : goal.returns-clause-tables
returns-clause-tables c =
    let h = c.requires.at in
    event_known c.args.scenario.now.setup c.args.self.now.telling.snapshots c.args.world.now c.event.new.self h.world c.args.event.now (Ok tt) h.stands c.requires.tables
    (c.in_ok-event.ensures.leads h.world h.reached h.stands)
