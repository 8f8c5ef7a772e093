use Rattle.std.proofs.Common.{sym, ◌∙◌}
use Rattle.broker_packets.specs.Serving.{open_at}
use Rattle.broker_packets.proofs.Producers.{attached_producer, refused_producer}
use Rattle.broker_packets.proofs.Shapes.{same_plan}
use Rattle.broker_packets.proofs.producing.attach_unless_refused.Goals as goal

pub returns-in-Some-clause-prepared : goal.returns-in-Some-clause-prepared
returns-in-Some-clause-prepared c =
    let h = c.args.state.now.site in
    let b = c.args.state.now.broker in
    let a = c.args.asked.now in
    same_plan h b _ _ c.refuse.new.plan c.refuse.result
    (refused_producer h b c.args.client (open_at b c.args.client) a.topic a.id a.request c.args.name.now c.in-Some.code (sym c.refusal.ensures.refusal ∙ c.in-Some.is)) c.refuse.ensures.prepared

pub returns-in-None-clause-prepared : goal.returns-in-None-clause-prepared
returns-in-None-clause-prepared c =
    let h = c.args.state.now.site in
    let b = c.args.state.now.broker in
    let a = c.args.asked.now in
    same_plan h b _ _ c.attach_producer.new.plan c.attach_producer.result
    (attached_producer h b c.args.client (open_at b c.args.client) a.topic a.id a.request c.args.name.now (sym c.refusal.ensures.refusal ∙ c.in-None.is)) c.attach_producer.ensures.prepared
