use Rattle.broker_packets.proofs.Shapes.{change_alone, permit_room, permits}
use Rattle.broker_packets.proofs.consuming.permit.Goals as goal

pub returns-clause-prepared : goal.returns-clause-prepared
returns-clause-prepared c =
    permits c.args.state.now.site c.args.state.now.broker c.args.sub_index c.args.client c.args.permits c.change.new.self c.requires.sub_index
    (change_alone c.args.sub_index _ c.begin.new.self c.change.new.self c.begin.ensures c.in_ok-change.ensures.ok)

pub returns-clause-room : goal.returns-clause-room
returns-clause-room c = λ room.
    permit_room room c.args.sub_index c.args.client c.args.permits c.change.new.self
    (change_alone c.args.sub_index _ c.begin.new.self c.change.new.self c.begin.ensures c.in_ok-change.ensures.ok)
