use Rattle.broker_plans.proofs.Keeping.{room_more}
use Rattle.broker_packets.proofs.Resets.{begins_sent}
use Rattle.broker_packets.proofs.resetting.begin_session.Goals as goal

pub returns-clause-prepared : goal.returns-clause-prepared
returns-clause-prepared c =
    begins_sent c.args.state.now.site c.args.state.now.broker c.args.remote c.args.session c.write_session.new.plan c.also_open.new.plan c.in_ok-write_session.ensures.prepared c.in_ok-also_open.ensures

pub returns-clause-room : goal.returns-clause-room
returns-clause-room c = λ room. room_more _ room _ _ _ (c.in_ok-write_session.ensures.room room) c.in_ok-also_open.ensures
