use Rattle.std.proofs.Common.{subst, sym, ◌∙◌}
use Rattle.geo_base.specs.Plan.{Plan}
use Rattle.broker_plans.specs.Prepared.{IsPrepared}
use Rattle.broker_packets.proofs.Sessions.{not_in, opened, served_in}
use Rattle.broker_packets.proofs.Shapes.{same_plan}
use Rattle.broker_packets.proofs.serving.serve_in.Goals as goal

pub serve_command-requires-clause-open : goal.serve_command-requires-clause-open
serve_command-requires-clause-open c = opened c.args.state.now.broker c.args.client c.args.session c.requires.client (sym c.is_open.ensures ∙ c.if-is_open.true)

pub returns-then-is_open-clause-prepared : goal.returns-then-is_open-clause-prepared
returns-then-is_open-clause-prepared c =
    let h = c.args.state.now.site in
    let b = c.args.state.now.broker in
    same_plan h b _ _ c.serve_command.new.plan c.serve_command.result (sym (served_in h b c.args.client c.args.session c.args.frame (sym c.is_open.ensures ∙ c.if-is_open.true))) c.serve_command.ensures.prepared

pub returns-else-is_open-clause-prepared : goal.returns-else-is_open-clause-prepared
returns-else-is_open-clause-prepared c =
    let h = c.args.state.now.site in
    let b = c.args.state.now.broker in
    subst (λ (z : Plan). IsPrepared h b z c.ignore.new.plan) (sym (not_in h b c.args.client c.args.session c.args.frame (sym c.is_open.ensures ∙ c.if-is_open.false))) c.ignore.ensures.prepared

pub returns-else-is_open-clause-room : goal.returns-else-is_open-clause-room
returns-else-is_open-clause-room c = c.ignore.ensures.room c.args.state.now.room
