use Rattle.std.proofs.Common.{sym, ◌∙◌}
use Rattle.broker_packets.specs.Serving.{open_at}
use Rattle.broker_packets.proofs.Joins.{admitted, denied}
use Rattle.broker_packets.proofs.Shapes.{same_plan}
use Rattle.broker_packets.proofs.subscribing.serve_subscribe.Goals as goal

pub returns-in-Some-clause-prepared : goal.returns-in-Some-clause-prepared
returns-in-Some-clause-prepared c =
    let h = c.args.state.now.site in
    let b = c.args.state.now.broker in
    let a = c.args.asked.now in
    same_plan h b _ _ c.refuse.new.plan c.refuse.result
    (denied h b c.args.client (open_at b c.args.client) a.topic a.sub a.kind a.id a.request a.earliest a.replicated c.in-Some.code (sym c.denial.ensures.denial ∙ c.in-Some.is)) c.refuse.ensures.prepared

pub returns-in-None-clause-prepared : goal.returns-in-None-clause-prepared
returns-in-None-clause-prepared c =
    let h = c.args.state.now.site in
    let b = c.args.state.now.broker in
    let a = c.args.asked.now in
    same_plan h b _ _ c.subscribe.new.plan c.subscribe.result
    (admitted h b c.args.client (open_at b c.args.client) a.topic a.sub a.kind a.id a.request a.earliest a.replicated (sym c.denial.ensures.denial ∙ c.in-None.is)) c.subscribe.ensures.prepared
