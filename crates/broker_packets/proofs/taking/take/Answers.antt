use Rattle.broker_packets.proofs.taking.take.Goals as goal

pub returns-in-Lost-clause-prepared : goal.returns-in-Lost-clause-prepared
returns-in-Lost-clause-prepared c = rw c.in-Lost.is c.set_session.ensures.prepared

pub returns-in-Lost-clause-room : goal.returns-in-Lost-clause-room
returns-in-Lost-clause-room c = c.set_session.ensures.room c.args.state.now.room

pub returns-in-Good-clause-prepared : goal.returns-in-Good-clause-prepared
returns-in-Good-clause-prepared c = rw c.in-Good.is c.take_once.ensures.prepared

pub returns-in-Good-clause-room : goal.returns-in-Good-clause-room
returns-in-Good-clause-room c = c.take_once.ensures.room

pub returns-in-Good-clause-kept : goal.returns-in-Good-clause-kept
returns-in-Good-clause-kept c = c.take_once.ensures.kept

pub returns-in-Twice-clause-prepared : goal.returns-in-Twice-clause-prepared
returns-in-Twice-clause-prepared c = rw c.in-Twice.is c.take_twice.ensures.prepared

pub returns-in-Twice-clause-room : goal.returns-in-Twice-clause-room
returns-in-Twice-clause-room c = c.take_twice.ensures.room

pub returns-in-Twice-clause-kept : goal.returns-in-Twice-clause-kept
returns-in-Twice-clause-kept c = c.take_twice.ensures.kept
