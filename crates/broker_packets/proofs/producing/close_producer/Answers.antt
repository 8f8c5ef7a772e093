use Rattle.std.proofs.Common.{◌≡◌, ◌∙◌, List, ap}
use Rattle.geo_base.specs.declared.frame.Frame.TheVariants as frame
use Rattle.geo_base.specs.declared.session.AttachedProducer.{AttachedProducer}
use Rattle.geo_base.specs.Producing.{without_producer}
use Rattle.broker_plans.proofs.Keeping.{room_more}
use Rattle.broker_packets.specs.Serving.{open_at}
use Rattle.broker_packets.proofs.Producers.{having_more}
use Rattle.broker_packets.proofs.producing.close_producer.Goals as goal

pub returns-clause-prepared : goal.returns-clause-prepared
returns-clause-prepared c =
    let b = c.args.state.now.broker in
    let ps = without_producer c.args.id (open_at b c.args.client).producers in
    let same : c.in_ok-kept.kept ≡ ps = c.in_ok-kept.ensures ∙ ap (λ (xs : List AttachedProducer). without_producer c.args.id xs) c.open_producers.ensures in
    having_more c.args.state.now.site b c.args.client (frame.Success c.args.request) c.in_ok-kept.kept ps c.set_producers.new.plan c.also_answer.new.plan same c.in_ok-set_producers.ensures.prepared c.in_ok-also_answer.ensures

pub returns-clause-room : goal.returns-clause-room
returns-clause-room c = λ room. room_more _ room _ _ _ (c.in_ok-set_producers.ensures.room room) c.in_ok-also_answer.ensures
