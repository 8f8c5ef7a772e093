use Rattle.broker_plans.proofs.Keeping.{room_more}
use Rattle.broker_packets.proofs.Shapes.{connects_more}
use Rattle.broker_packets.proofs.serving.connect.Goals as goal

pub returns-clause-prepared : goal.returns-clause-prepared
returns-clause-prepared c =
    connects_more c.args.state.now.site c.args.state.now.broker c.args.client c.args.number c.new.result c.change_session.new.plan c.also_send.new.plan c.new.ensures c.in_ok-change_session.ensures.prepared c.in_ok-also_send.ensures.ok

pub returns-clause-room : goal.returns-clause-room
returns-clause-room c = λ room. room_more _ room _ _ _ (c.in_ok-change_session.ensures.room room) c.in_ok-also_send.ensures.ok
