use Rattle.std.proofs.Common.{◌≡◌, true, false, ap, subst, ◌∙◌}
use Rattle.std.specs.Prelude.{OnOk}
use Rattle.geo_base.specs.Broker.{Site}
use Rattle.geo_base.specs.Forwarding.{is_remote}
use Rattle.geo_base.specs.Plan.{Plan}
use Rattle.broker_plans.specs.Prepared.{IsPrepared}
use Rattle.broker_packets.proofs.Resets.{reset_begins, reset_idle}
use Rattle.broker_packets.proofs.resetting.prepare_reset.Goals as goal

pub returns-then-not-is_remote-clause-prepared : goal.returns-then-not-is_remote-clause-prepared
returns-then-not-is_remote-clause-prepared c =
    let told : c.is_remote.result ≡ is_remote c.args.state.now.site c.args.remote = c.is_remote.ensures ∙ ap (λ (h : Site). is_remote h c.args.remote) c.site.ensures.value in
    let no : c.is_remote.result ≡ false = cc in
    reset_idle c.args.state.now.site c.args.state.now.broker c.args.remote c.is_remote.result c.args.plan.now told no c.requires.empty

pub returns-clause-prepared : goal.returns-clause-prepared
returns-clause-prepared c =
    let h = c.args.state.now.site in
    let b = c.args.state.now.broker in
    let told : c.is_remote.result ≡ is_remote h c.args.remote = c.is_remote.ensures ∙ ap (λ (g : Site). is_remote g c.args.remote) c.site.ensures.value in
    let yes : c.is_remote.result ≡ true = cc in
    subst (λ (q : Plan). OnOk c.begin_session.result (IsPrepared h b q c.begin_session.new.plan)) (reset_begins h b c.args.remote c.next_session-session.result c.is_remote.result told yes c.next_session-session.ensures)
    c.begin_session.ensures.prepared
