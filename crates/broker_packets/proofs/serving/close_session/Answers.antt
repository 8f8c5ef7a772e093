use Rattle.broker_packets.proofs.serving.close_session.Goals as goal

pub returns-clause-prepared : goal.returns-clause-prepared
returns-clause-prepared c = c.change_session.ensures.prepared

pub returns-clause-room : goal.returns-clause-room
returns-clause-room c = c.change_session.ensures.room
