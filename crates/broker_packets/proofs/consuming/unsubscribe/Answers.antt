use Rattle.std.proofs.Common.{◌≤◌, List, [], ◌∷◌, length, refl, ap, arith}
use Rattle.geo_base.specs.declared.consumer.Consumer.{Consumer}
use Rattle.geo_base.specs.declared.frame.Frame.TheVariants as frame
use Rattle.geo_base.specs.declared.write.Write.TheVariants as write
use Rattle.geo_base.specs.Subscription.{Subscription}
use Rattle.broker_subs.specs.Table.{sub_at}
use Rattle.broker_plans.proofs.Keeping.{room_more}
use Rattle.broker_packets.specs.Serving.{open_at}
use Rattle.broker_packets.proofs.Shapes.{answers_more, one_consumer}
use Rattle.broker_packets.proofs.consuming.unsubscribe.Goals as goal

pub returns-clause-prepared : goal.returns-clause-prepared
returns-clause-prepared c =
    let b = c.args.state.now.broker in
    let x = c.args.client in
    let s = sub_at b.subs c.args.sub_index in
    let few : length s.consumers ≤ 1 = omega (arith, ap (λ (t : Subscription). length t.consumers) c.sub_at.ensures.sub, ap (λ (xs : List Consumer). length xs) c.consumers.ensures) in
    rw (one_consumer x (open_at b x) c.args.request s few)
    (answers_more c.args.state.now.site b b x (frame.Success c.args.request) (write.Delete s.name ∷ []) [] c.delete.new.plan c.also_answer.new.plan refl c.in_ok-delete.ensures.prepared c.in_ok-also_answer.ensures)

pub returns-clause-room : goal.returns-clause-room
returns-clause-room c = λ room. room_more _ room _ _ _ (c.in_ok-delete.ensures.room room) c.in_ok-also_answer.ensures
