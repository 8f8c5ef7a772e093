use Rattle.std.proofs.Common.{[], ◌∷◌, refl}
use Rattle.geo_base.specs.declared.change.Change.TheVariants as change
use Rattle.geo_base.specs.declared.frame.Frame.TheVariants as frame
use Rattle.broker_plans.proofs.Keeping.{room_more}
use Rattle.broker_packets.proofs.Shapes.{answers_more}
use Rattle.broker_packets.proofs.consuming.close_consumer.Goals as goal

pub returns-clause-prepared : goal.returns-clause-prepared
returns-clause-prepared c =
    let b = c.args.state.now.broker in
    answers_more c.args.state.now.site b b c.args.client (frame.Success c.args.request) [] (change.Detach c.args.client ∷ []) c.detach_client.new.plan c.also_answer.new.plan refl c.in_ok-detach_client.ensures.prepared c.in_ok-also_answer.ensures

pub returns-clause-room : goal.returns-clause-room
returns-clause-room c = λ room. room_more _ room _ _ _ (c.in_ok-detach_client.ensures.room room) c.in_ok-also_answer.ensures
