use Rattle.std.proofs.Common.{[], ◌∷◌, refl}
use Rattle.geo_base.specs.declared.change.Change.TheVariants as change
use Rattle.geo_base.specs.declared.frame.Frame.TheVariants as frame
use Rattle.geo_base.specs.Broker.{Broker}
use Rattle.geo_base.specs.Subscribing.{altering, joins}
use Rattle.broker_subs.specs.Table.{sub_at}
use Rattle.broker_plans.proofs.Keeping.{room_more}
use Rattle.broker_packets.specs.Serving.{open_at}
use Rattle.broker_packets.proofs.Shapes.{answers_more, at_old}
use Rattle.broker_packets.proofs.subscribing.join.Goals as goal

pub returns-clause-prepared : goal.returns-clause-prepared
returns-clause-prepared c =
    let h = c.reserve_sub.new.self.site in
    let now = c.reserve_sub.new.self.broker in
    let a = c.args.asked.now in
    let x = c.args.client in
    let s = sub_at now.subs c.args.sub_index in
    let is = answers_more h now now x (frame.Success a.request) (altering s a.kind a.replicated) (change.Attach s.name (record { client = x; id = a.id; permits = 0 }) ∷ []) c.prepare_join.new.plan c.also_answer.new.plan refl c.in_ok-prepare_join.ensures.prepared c.in_ok-also_answer.ensures in
    at_old h c.args.state.now.site now c.args.state.now.broker (λ (b : Broker). joins x (open_at b x) (sub_at b.subs c.args.sub_index).name a.id a.request (altering (sub_at b.subs c.args.sub_index) a.kind a.replicated)) c.also_answer.new.plan c.in_ok-reserve_sub.ensures.site c.in_ok-reserve_sub.ensures.broker is

pub returns-clause-room : goal.returns-clause-room
returns-clause-room c = room_more _ _ _ _ _ c.in_ok-prepare_join.ensures.room c.in_ok-also_answer.ensures
