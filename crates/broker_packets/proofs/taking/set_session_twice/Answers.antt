use Rattle.broker_packets.proofs.Takes.{becomes_twice, becomes_twice_room, change_again, change_alone}
use Rattle.broker_packets.proofs.taking.set_session_twice.Goals as goal

pub returns-clause-prepared : goal.returns-clause-prepared
returns-clause-prepared c =
    let once = change_alone _ c.begin.new.self c.change.new.self c.begin.ensures c.in_ok-change.ensures.ok in
    becomes_twice c.args.state.now.site c.args.state.now.broker c.args.source c.args.session c.change-2.new.self c.requires.source
    (change_again _ c.change.new.self c.change-2.new.self once c.in_ok-change-2.ensures.ok)

pub returns-clause-room : goal.returns-clause-room
returns-clause-room c = λ room.
    let once = change_alone _ c.begin.new.self c.change.new.self c.begin.ensures c.in_ok-change.ensures.ok in
    becomes_twice_room room c.args.source c.args.session c.change-2.new.self (change_again _ c.change.new.self c.change-2.new.self once c.in_ok-change-2.ensures.ok)
