use Rattle.std.proofs.Common.{◌∙◌, ◌==◌, ◌+◌, ℕ, ap}
use Rattle.audit.proofs.Judging.{event_judged}
use Rattle.audit.proofs.mirrors.AllMirrors.event_refused.Goals as goal

pub returns : goal.returns
returns c = λ k s. c.unless_broken.ensures ∙ event_judged k s c.args.self.now c.args.number c.is_next.result (c.is_next.ensures ∙ ap (λ (k : ℕ). c.args.number == k + 1) c.events.ensures)
