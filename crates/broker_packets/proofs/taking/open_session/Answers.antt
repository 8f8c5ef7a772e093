use Rattle.broker_packets.proofs.Answered.{opening_prepared, room_answers}
use Rattle.broker_packets.proofs.taking.open_session.Goals as goal

pub returns-clause-prepared : goal.returns-clause-prepared
returns-clause-prepared c =
    let at = c.args.arrival in
    opening_prepared c.args.state.now.site c.args.state.now.broker at.source at.again c.args.id c.args.request c.set_session_times.new.plan c.also_succeed.new.plan
    c.in_ok-set_session_times.ensures.prepared c.in_ok-also_succeed.ensures

pub returns-clause-room : goal.returns-clause-room
returns-clause-room c = λ room. room_answers _ room _ _ _ (c.in_ok-set_session_times.ensures.room room) c.in_ok-also_succeed.ensures
