use Rattle.std.proofs.Common.{[], ◌∷◌, refl}
use Rattle.std.specs.Prelude.{not}
use Rattle.geo_base.specs.declared.change.Change.TheVariants as change
use Rattle.geo_base.specs.declared.frame.Frame.TheVariants as frame
use Rattle.geo_base.specs.declared.write.Write.TheVariants as write
use Rattle.geo_base.specs.Broker.{Broker}
use Rattle.geo_base.specs.Subscribing.{joins}
use Rattle.broker_plans.proofs.Keeping.{room_more}
use Rattle.broker_packets.specs.Serving.{open_at}
use Rattle.broker_packets.proofs.Shapes.{answers_more, at_old}
use Rattle.broker_packets.proofs.subscribing.create_and_join.Goals as goal

pub returns-clause-prepared : goal.returns-clause-prepared
returns-clause-prepared c =
    let h = c.reserve_places.new.self.site in
    let now = c.reserve_places.new.self.broker in
    let a = c.args.asked.now in
    let x = c.args.client in
    let ws = write.Create a.sub a.kind a.replicated (not a.earliest) ∷ [] in
    let is = answers_more h now now x (frame.Success a.request) ws (change.Attach a.sub (record { client = x; id = a.id; permits = 0 }) ∷ []) c.prepare_create.new.plan c.also_answer.new.plan refl c.in_ok-prepare_create.ensures.prepared c.in_ok-also_answer.ensures in
    at_old h c.args.state.now.site now c.args.state.now.broker (λ (b : Broker). joins x (open_at b x) a.sub a.id a.request ws) c.also_answer.new.plan c.in_ok-reserve_places.ensures.site c.in_ok-reserve_places.ensures.broker is

pub returns-clause-room : goal.returns-clause-room
returns-clause-room c = room_more _ _ _ _ _ c.in_ok-prepare_create.ensures.room c.in_ok-also_answer.ensures
