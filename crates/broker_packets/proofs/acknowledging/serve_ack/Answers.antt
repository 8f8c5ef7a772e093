use Rattle.broker_packets.proofs.acknowledging.serve_ack.Goals as goal

pub returns-in_default-clause-room : goal.returns-in_default-clause-room
returns-in_default-clause-room c = c.ignore.ensures.room c.args.state.now.room

pub returns-in-None-clause-room : goal.returns-in-None-clause-room
returns-in-None-clause-room c = c.ignore-in-None.ensures.room c.args.state.now.room
