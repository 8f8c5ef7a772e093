use Rattle.std.proofs.Common.{List, sym, ◌∙◌, ap}
use Rattle.geo_base.specs.declared.session.AttachedProducer.{AttachedProducer}
use Rattle.broker_packets.specs.Producing.{has_id}
use Rattle.broker_packets.specs.Serving.{open_at}
use Rattle.broker_packets.proofs.Producers.{closes, not_closed}
use Rattle.broker_packets.proofs.Shapes.{same_plan}
use Rattle.broker_packets.proofs.producing.serve_close_producer.Goals as goal

pub returns-then-has_id-clause-prepared : goal.returns-then-has_id-clause-prepared
returns-then-has_id-clause-prepared c =
    let b = c.args.state.now.broker in
    let told = c.has_id.ensures ∙ ap (λ (xs : List AttachedProducer). has_id c.args.id xs) c.open_producers.ensures in
    same_plan c.args.state.now.site b _ _ c.close_producer.new.plan c.close_producer.result (closes c.args.client (open_at b c.args.client) c.args.id c.args.request (sym told ∙ c.if-has_id.true)) c.close_producer.ensures.prepared

pub returns-else-has_id-clause-prepared : goal.returns-else-has_id-clause-prepared
returns-else-has_id-clause-prepared c =
    let b = c.args.state.now.broker in
    let told = c.has_id.ensures ∙ ap (λ (xs : List AttachedProducer). has_id c.args.id xs) c.open_producers.ensures in
    same_plan c.args.state.now.site b _ _ c.refuse.new.plan c.refuse.result (not_closed c.args.client (open_at b c.args.client) c.args.id c.args.request (sym told ∙ c.if-has_id.false)) c.refuse.ensures.prepared
