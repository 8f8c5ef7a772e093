use Rattle.std.proofs.lemmas.Result.{err_from_is_err_and}
use Rattle.world.proofs.SettledEvent.{settles_acted, settles_failed}
use Rattle.trace_runs.proofs.running.TraceObserver.settling.Goals as goal

pub returns-in_err-_enabled-clause-leads : goal.returns-in_err-_enabled-clause-leads
returns-in_err-_enabled-clause-leads c = λ w reached stands.
    let p = err_from_is_err_and c.from_residual.result c.from_residual.ensures.1 in
    rw (p.1, p.2) (settles_failed c.args.scenario.now.setup c.args.world.now c.acts.new.world w c.args.event.now c.in_err-_enabled.field-0.0 (c.in_err-_enabled.ensures.acts w reached stands) stands)

pub returns-clause-leads : goal.returns-clause-leads
returns-clause-leads c = λ w reached stands.
    settles_acted c.args.scenario.now.setup c.args.world.now c.acts.new.world w c.args.event.now c.in_ok-_enabled._enabled (c.in_ok-_enabled.ensures.acts w reached stands)
    c.acts.ensures.later c.acts.ensures.at stands
