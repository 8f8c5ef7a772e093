use Rattle.std.proofs.Common.{ℕ, ◌==◌, List, ap, subst, sym, ◌∙◌}
use Rattle.std.proofs.lemmas.Result.{err_from_is_err_and}
use Rattle.step_lines.specs.Telling.{client_step, tells_step}
use Rattle.step_lines.specs.Texts.{telling_of}
use Rattle.world.specs.ClientSteps.{client_in as log_client}
use Rattle.step_lines.specs.Backlogs.{AreBacklogs, KnownBacklogs}
use Rattle.step_lines.proofs.Following.{client_known}
use Rattle.world.specs.World.{kept_of}
use Rattle.step_lines.proofs.Told.{client_in, client_noted, client_told, wants_no_limit}
use Rattle.world.proofs.ClientEvents.{client_below, client_is}
use Rattle.world.proofs.Leading.{wants}
use Rattle.step_lines.proofs.steps.Steps.client_event.Goals as goal

pub returns-in_err-event-clause-leads : goal.returns-in_err-event-clause-leads
returns-in_err-event-clause-leads c = λ w reached stands.
    let p = err_from_is_err_and c.from_residual.result c.from_residual.ensures.1 in
    rw (p.1, p.2) (c.in_err-event.ensures.leads w reached stands)

pub returns-in_err-event-clause-past : goal.returns-in_err-event-clause-past
returns-in_err-event-clause-past c = λ n is. c.in_err-event.ensures.err

pub returns-in_err-tell_client-clause-leads : goal.returns-in_err-tell_client-clause-leads
returns-in_err-tell_client-clause-leads c = λ w reached stands.
    let p = err_from_is_err_and c.from_residual-in_err-tell_client.result c.from_residual-in_err-tell_client.ensures.1 in
    rw (p.1, p.2) (wants c.args.scenario.now.setup c.args.world.now c.event.new.self _)

pub returns-in_err-tell_client-clause-past : goal.returns-in_err-tell_client-clause-past
returns-in_err-tell_client-clause-past c = λ n.
    let p = err_from_is_err_and c.from_residual-in_err-tell_client.result c.from_residual-in_err-tell_client.ensures.1 in
    rw (p.1, p.2) (wants_no_limit (Unit {0}) _ n)

pub returns-clause-told : goal.returns-clause-told
returns-clause-told c = λ w reached stands.
    let s = c.args.scenario.now.setup in let old = c.args.world.now in let new = c.event.new.self in let e = c.args.event.now in let n = c.args.client in
    let here = client_in s n e c.requires.client c.requires.scripted in let led = (c.in_ok-event.ensures.leads w reached stands).done.0 in
    let k = c.client.result.now in
    client_told s n e w old new k _ (telling_of c.args.self.now.telling) (telling_of c.tell_client.new.self.telling) c.requires.client stands led
    (client_noted s old w n k c.requires.at here stands c.client.ensures) (client_is s new _ n c.event.ensures.at here led)
    (c.in_ok-tell_client.ensures.told k c.client_of-noted.ensures ∙ ap (λ (m : ℕ). tells_step s (telling_of c.args.self.now.telling) (client_step s n (new.events == m) k (log_client new.clients n))) c.events-before.ensures.events)

pub client-requires : goal.client-requires
client-requires c = client_below c.args.scenario.now.setup c.args.world.now c.args.client c.requires.at (client_in c.args.scenario.now.setup c.args.client c.args.event.now c.requires.client c.requires.scripted)

pub tell_client-requires-clause-client : goal.tell_client-requires-clause-client
tell_client-requires-clause-client c =
    client_below c.args.scenario.now.setup c.event.new.self c.args.client c.event.ensures.at (client_in c.args.scenario.now.setup c.args.client c.args.event.now c.requires.client c.requires.scripted)

pub returns-clause-backlogs : goal.returns-clause-backlogs
returns-clause-backlogs c =
    let s = c.args.scenario.now.setup in let h = c.requires.at in let new = c.event.new.self in
    subst (λ (ks : List KnownBacklogs). AreBacklogs ks (kept_of new).brokers) (sym c.tell_client.ensures.backlogs)
    (client_known s h.world c.args.world.now new c.args.client c.args.event.now c.args.self.now.backlogs c.requires.client h.stands (c.in_ok-event.ensures.leads h.world h.reached h.stands).done.0 c.requires.backlogs)
