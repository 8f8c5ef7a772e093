use Rattle.std.proofs.Common.{◌≡◌, ◌∙◌, refl}
use Rattle.broker_tasks.proofs.Seeks.{restart_view, restarts}
use Rattle.broker_tasks.proofs.seeking.prepare_restart.Goals as goal

pub returns-clause-prepared : goal.returns-clause-prepared
returns-clause-prepared c =
    let is : c.change.new.self ≡ restart_view = c.in_ok-change.ensures.ok ∙ rw (c.in_ok-write.ensures.ok, c.begin.ensures) refl in
    restarts c.args.state.now.site c.args.state.now.broker c.change.new.self is
