use Rattle.std.proofs.Common.{subst}
use Rattle.broker_packets.specs.Acts.{ActStorable}
use Rattle.broker_packets.specs.declared.act.TakeAct.{TakeAct}
use Rattle.broker_packets.proofs.Plans.{quiet, quiet_room}
use Rattle.broker_packets.proofs.taking.act.Goals as goal

pub receive_entry-requires-clause-storable : goal.receive_entry-requires-clause-storable
receive_entry-requires-clause-storable c = subst (λ (t : TakeAct). ActStorable c.args.state.now.site t) c.in-Receives.is c.requires.storable

pub returns-in-Unreadable-clause-prepared : goal.returns-in-Unreadable-clause-prepared
returns-in-Unreadable-clause-prepared c = rw c.in-Unreadable.is c.set_session_times.ensures.prepared

pub returns-in-Unreadable-clause-room : goal.returns-in-Unreadable-clause-room
returns-in-Unreadable-clause-room c = c.set_session_times.ensures.room c.args.state.now.room

pub returns-in-Opens-clause-prepared : goal.returns-in-Opens-clause-prepared
returns-in-Opens-clause-prepared c = rw c.in-Opens.is c.open_session.ensures.prepared

pub returns-in-Opens-clause-room : goal.returns-in-Opens-clause-room
returns-in-Opens-clause-room c = c.open_session.ensures.room c.args.state.now.room

pub returns-in-Discards-clause-prepared : goal.returns-in-Discards-clause-prepared
returns-in-Discards-clause-prepared c = rw c.in-Discards.is (quiet c.args.state.now.site c.args.state.now.broker c.begin.new.self c.begin.ensures)

pub returns-in-Discards-clause-room : goal.returns-in-Discards-clause-room
returns-in-Discards-clause-room c = quiet_room c.args.state.now.room c.begin.new.self c.begin.ensures

pub returns-in-Refuses-clause-prepared : goal.returns-in-Refuses-clause-prepared
returns-in-Refuses-clause-prepared c = rw c.in-Refuses.is c.set_session.ensures.prepared

pub returns-in-Refuses-clause-room : goal.returns-in-Refuses-clause-room
returns-in-Refuses-clause-room c = c.set_session.ensures.room c.args.state.now.room

pub returns-in-Receives-clause-prepared : goal.returns-in-Receives-clause-prepared
returns-in-Receives-clause-prepared c = rw c.in-Receives.is c.receive_entry.ensures.prepared

pub returns-in-Receives-clause-room : goal.returns-in-Receives-clause-room
returns-in-Receives-clause-room c = c.receive_entry.ensures.room

pub returns-in-Receives-clause-kept : goal.returns-in-Receives-clause-kept
returns-in-Receives-clause-kept c = c.receive_entry.ensures.kept
