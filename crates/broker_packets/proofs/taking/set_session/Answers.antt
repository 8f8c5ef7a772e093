use Rattle.broker_packets.proofs.Takes.{becomes, becomes_room, change_alone}
use Rattle.broker_packets.proofs.taking.set_session.Goals as goal

pub returns-clause-prepared : goal.returns-clause-prepared
returns-clause-prepared c =
    becomes c.args.state.now.site c.args.state.now.broker c.args.source c.args.session c.change.new.self c.requires.source
    (change_alone _ c.begin.new.self c.change.new.self c.begin.ensures c.in_ok-change.ensures.ok)

pub returns-clause-room : goal.returns-clause-room
returns-clause-room c = λ room.
    becomes_room room c.args.source c.args.session c.change.new.self (change_alone _ c.begin.new.self c.change.new.self c.begin.ensures c.in_ok-change.ensures.ok)
