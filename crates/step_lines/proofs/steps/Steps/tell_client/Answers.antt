use Rattle.std.proofs.Common.{sym, ◌∙◌}
use Rattle.step_lines.specs.Texts.{telling_of}
use Rattle.world.specs.ClientSteps.{client_in as log_client}
use Rattle.step_lines.proofs.Told.{client_done, client_rests, client_seen}
use Rattle.step_lines.proofs.steps.Steps.tell_client.Goals as goal

pub returns-then-events-before-clause-told : goal.returns-then-events-before-clause-told
returns-then-events-before-clause-told c = λ k noted.
    client_rests c.args.scenario.now.setup c.args.client k (log_client c.args.world.now.clients c.args.client) (telling_of c.args.self.now.telling) (telling_of c.add_step.new.self) c.args.world.now.events c.args.before c.add_step.result
    (sym c.events.ensures.events ∙ c.if-events-before.true) c.add_step.ensures.told

pub returns-clause-told : goal.returns-clause-told
returns-clause-told c = λ k noted.
    let s = c.args.scenario.now.setup in let n = c.args.client in let m = c.client-now.result.now in
    client_done s n k m (log_client c.args.world.now.clients n) c.declared_at-declared.result.now (telling_of c.args.self.now.telling) (telling_of c.add_step-2.new.self) c.add_client_changes.new.lines c.args.world.now.events c.args.before
    c.add_client_changes.result (λ same. c.if-events-before.false (c.events.ensures.events ∙ same)) (client_seen s c.args.world.now n m c.requires.client c.client-now.ensures) c.declared_at-declared.ensures
    c.in_ok-add_step.ensures.told (c.add_client_changes.ensures k noted)
