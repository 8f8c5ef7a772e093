use Rattle.std.proofs.Common.{Bool}
use Rattle.std.proofs.lemmas.Result.{err_from_is_err_and}
use Rattle.step_lines.specs.Texts.{telling_of}
use Rattle.step_lines.proofs.Told.{settling_told}
use Rattle.world.specs.declared.fault.RunFault.TheVariants as fault
use Rattle.world.proofs.Observing.{same_fault}
use Rattle.world.proofs.SettledEvent.{settles_acted, settles_failed}
use Rattle.step_lines.proofs.steps.StepsObserver.settling.Goals as goal

pub returns-in_err-_enabled-clause-leads : goal.returns-in_err-_enabled-clause-leads
returns-in_err-_enabled-clause-leads c = λ w reached stands.
    let p = err_from_is_err_and c.from_residual.result c.from_residual.ensures.1 in
    rw (p.1, p.2) (settles_failed c.args.scenario.now.setup c.args.world.now c.acts.new.world w c.args.event.now c.in_err-_enabled.field-0.0 (c.in_err-_enabled.ensures.acts w reached stands) stands)

pub returns-in_err-_enabled-clause-past : goal.returns-in_err-_enabled-clause-past
returns-in_err-_enabled-clause-past c = λ n.
    let p = err_from_is_err_and c.from_residual.result c.from_residual.ensures.1 in
    rw (p.1, p.2) (λ is. c.in_err-_enabled.ensures.past n (same_fault (Unit {0}) Bool c.in_err-_enabled.field-0.0 (fault.TooLarge n) is))

pub returns-clause-seen : goal.returns-clause-seen
returns-clause-seen c = λ w reached stands.
    settling_told c.args.scenario.now.setup w c.args.event.now (telling_of c.args.self.now.telling) (telling_of c.acts.new.self.telling) c.in_ok-_enabled._enabled (c.in_ok-_enabled.ensures.told w reached stands)

pub returns-clause-leads : goal.returns-clause-leads
returns-clause-leads c = λ w reached stands.
    settles_acted c.args.scenario.now.setup c.args.world.now c.acts.new.world w c.args.event.now c.in_ok-_enabled._enabled (c.in_ok-_enabled.ensures.acts w reached stands)
    c.acts.ensures.later c.acts.ensures.at stands
