use Rattle.std.proofs.Common.{◌∙◌, ap, length, arith}
use Rattle.geo_base.specs.Broker.{Broker}
use Rattle.broker_subs.specs.Table.{names_of, room_at, sub_at}
use Rattle.broker_state.specs.Room.{Room}
use Rattle.broker_state.specs.Replicators.{stepped}
use Rattle.broker_state.specs.State.{StateView}
use Rattle.broker_state.specs.declared.replicator_row.ReplicatorStep.TheVariants as replicator_step
use Rattle.broker_state.proofs.ReplicatorSteps.{ack_leaves, session_leaves, step_replicator, step_shape}
use Rattle.broker_state.proofs.Steps.{created_is, sub_written_is}
use Rattle.broker_state.proofs.state.BrokerState.write.Goals as goal

pub append-requires : goal.append-requires
append-requires c =
    let fits = rw c.in-Append.is at c.requires.fits in
    let entries = rw c.in-Append.is at c.requires.entries in
    let streams = rw c.in-Append.is at c.requires.streams in
    record {
      accepted = fits.0;
      stream = fits.1;
      entries = omega (arith, entries);
      streams = omega (arith, streams);
    }

pub returns-in-Append-clause-broker : goal.returns-in-Append-clause-broker
returns-in-Append-clause-broker c = rw c.in-Append.is c.append.ensures.broker

pub returns-in-Append-clause-names : goal.returns-in-Append-clause-names
returns-in-Append-clause-names c = rw c.in-Append.is (ap (λ (b : Broker). names_of b.subs) c.append.ensures.broker)

pub returns-in-Append-clause-shape : goal.returns-in-Append-clause-shape
returns-in-Append-clause-shape c = record {
  replicators = ap (λ (b : Broker). length b.replicators) c.append.ensures.broker;
  receivers = ap (λ (b : Broker). length b.receivers) c.append.ensures.broker;
  sessions = ap (λ (b : Broker). length b.sessions) c.append.ensures.broker;
}

pub returns-in-Append-clause-room : goal.returns-in-Append-clause-room
returns-in-Append-clause-room c = rw c.in-Append.is (record {
  entries = c.append.ensures.entries;
  streams = c.append.ensures.streams;
  places = omega (arith, ap (λ (r : Room). r.places) c.append.ensures.rest);
  acks = omega (arith, ap (λ (r : Room). (room_at r.subs c.args.sub_index).acks) c.append.ensures.rest);
  room = omega (arith, ap (λ (r : Room). (room_at r.subs c.args.sub_index).room) c.append.ensures.rest);
  replicators = omega (arith, ap (λ (r : Room). r.replicators) c.append.ensures.rest);
})

pub create-requires : goal.create-requires
create-requires c =
    let fits = rw c.in-Create.is at c.requires.fits in
    let places = rw c.in-Create.is at c.requires.places in
    record {
      new = fits.0;
      acks = rw c.in-Create.is at c.requires.acks;
      absent = fits.1;
      places = omega (arith, places);
    }

pub returns-in-Create-clause-broker : goal.returns-in-Create-clause-broker
returns-in-Create-clause-broker c = rw c.in-Create.is c.create.ensures.broker

pub returns-in-Create-clause-names : goal.returns-in-Create-clause-names
returns-in-Create-clause-names c = rw c.in-Create.is c.create.ensures.names

pub returns-in-Create-clause-shape : goal.returns-in-Create-clause-shape
returns-in-Create-clause-shape c =
    let b = c.args.self.now.broker in
    let s = c.in-Create.sub.sub in
    let fits = rw c.in-Create.is at c.requires.fits in
    let is = c.create.ensures.broker ∙ created_is c.args.self.now.site.per_ledger b s.name s.kind s.replicated c.in-Create.latest fits.1 in
    record {
      replicators = ap (λ (x : Broker). length x.replicators) is;
      receivers = ap (λ (x : Broker). length x.receivers) is;
      sessions = ap (λ (x : Broker). length x.sessions) is;
    }

pub returns-in-Create-clause-room : goal.returns-in-Create-clause-room
returns-in-Create-clause-room c =
    let sub_index = rw c.in-Create.is at c.requires.sub_index in
    rw (c.in-Create.is, sub_index) (record {
      entries = omega (arith, ap (λ (r : Room). r.entries) c.create.ensures.rest);
      streams = omega (arith, ap (λ (r : Room). r.streams) c.create.ensures.rest);
      places = c.create.ensures.places;
      acks = omega (arith, c.create.ensures.acks);
      room = omega (arith, c.create.ensures.room);
      replicators = omega (arith, ap (λ (r : Room). r.replicators) c.create.ensures.rest);
    })

pub write_sub-requires : goal.write_sub-requires
write_sub-requires c =
    let fits = rw c.in-Sub.is at c.requires.fits in
    record {
      sub_index = rw c.in-Sub.is at c.requires.sub_index;
      acks = rw c.in-Sub.is at c.requires.acks;
      fits = fits.1;
    }

pub returns-in-Sub-clause-broker : goal.returns-in-Sub-clause-broker
returns-in-Sub-clause-broker c = rw c.in-Sub.is c.write_sub.ensures.broker

pub returns-in-Sub-clause-names : goal.returns-in-Sub-clause-names
returns-in-Sub-clause-names c = rw c.in-Sub.is c.write_sub.ensures.names

pub returns-in-Sub-clause-shape : goal.returns-in-Sub-clause-shape
returns-in-Sub-clause-shape c =
    let b = c.args.self.now.broker in
    let is = c.write_sub.ensures.broker ∙ sub_written_is c.args.self.now.site.per_ledger b (sub_at b.subs c.args.sub_index).name b.entries c.in-Sub.write in
    record {
      replicators = ap (λ (x : Broker). length x.replicators) is;
      receivers = ap (λ (x : Broker). length x.receivers) is;
      sessions = ap (λ (x : Broker). length x.sessions) is;
    }

pub returns-in-Sub-clause-room : goal.returns-in-Sub-clause-room
returns-in-Sub-clause-room c = rw c.in-Sub.is (record {
  entries = omega (arith, ap (λ (r : Room). r.entries) c.write_sub.ensures.rest);
  streams = omega (arith, ap (λ (r : Room). r.streams) c.write_sub.ensures.rest);
  places = omega (arith, ap (λ (r : Room). r.places) c.write_sub.ensures.rest);
  acks = c.write_sub.ensures.acks;
  room = omega (arith, c.write_sub.ensures.room);
  replicators = omega (arith, ap (λ (r : Room). r.replicators) c.write_sub.ensures.rest);
})

pub step-requires : goal.step-requires
step-requires c =
    let fits = rw c.in-ReplicatorAck.is at c.requires.fits in
    let many = rw c.in-ReplicatorAck.is at c.requires.replicators in
    record {
      remote = omega (arith, fits.0, ap (λ (b : StateView). length b.broker.replicators) c.self-in-ReplicatorAck.view_is);
      room = omega (arith, many, ap (λ (b : StateView). b.room.replicators) c.self-in-ReplicatorAck.view_is);
      fits = fits.1;
    }

pub returns-in-ReplicatorAck-clause-broker : goal.returns-in-ReplicatorAck-clause-broker
returns-in-ReplicatorAck-clause-broker c = rw c.in-ReplicatorAck.is (step_replicator _ _ c.step.new.self.replicators c.in-ReplicatorAck.remote (stepped (replicator_step.Acknowledge c.in-ReplicatorAck.index)) c.self-in-ReplicatorAck.view_is c.step.ensures.replicators)

pub returns-in-ReplicatorAck-clause-names : goal.returns-in-ReplicatorAck-clause-names
returns-in-ReplicatorAck-clause-names c = rw c.in-ReplicatorAck.is (ap (λ (b : StateView). names_of b.broker.subs) c.self-in-ReplicatorAck.view_is)

pub returns-in-ReplicatorAck-clause-site : goal.returns-in-ReplicatorAck-clause-site
returns-in-ReplicatorAck-clause-site c = ap (λ (b : StateView). b.site) c.self-in-ReplicatorAck.view_is

pub returns-in-ReplicatorAck-clause-shape : goal.returns-in-ReplicatorAck-clause-shape
returns-in-ReplicatorAck-clause-shape c = step_shape _ _ c.step.new.self.replicators c.in-ReplicatorAck.remote _ c.self-in-ReplicatorAck.view_is c.step.ensures.replicators

pub returns-in-ReplicatorAck-clause-room : goal.returns-in-ReplicatorAck-clause-room
returns-in-ReplicatorAck-clause-room c = rw c.in-ReplicatorAck.is (ack_leaves c.args.sub_index c.in-ReplicatorAck.remote c.in-ReplicatorAck.index _ _ c.step.new.self.room c.self-in-ReplicatorAck.view_is c.step.ensures.room)

pub step-requires-in-SessionNumber : goal.step-requires-in-SessionNumber
step-requires-in-SessionNumber c =
    let fits = rw c.in-SessionNumber.is at c.requires.fits in
    record {
      remote = omega (arith, fits, ap (λ (b : StateView). length b.broker.replicators) c.self-in-SessionNumber.view_is);
      room = omega arith;
      fits = tt;
    }

pub returns-in-SessionNumber-clause-broker : goal.returns-in-SessionNumber-clause-broker
returns-in-SessionNumber-clause-broker c = rw c.in-SessionNumber.is (step_replicator _ _ c.step-in-SessionNumber.new.self.replicators c.in-SessionNumber.remote (stepped (replicator_step.Session c.in-SessionNumber.session)) c.self-in-SessionNumber.view_is c.step-in-SessionNumber.ensures.replicators)

pub returns-in-SessionNumber-clause-names : goal.returns-in-SessionNumber-clause-names
returns-in-SessionNumber-clause-names c = rw c.in-SessionNumber.is (ap (λ (b : StateView). names_of b.broker.subs) c.self-in-SessionNumber.view_is)

pub returns-in-SessionNumber-clause-site : goal.returns-in-SessionNumber-clause-site
returns-in-SessionNumber-clause-site c = ap (λ (b : StateView). b.site) c.self-in-SessionNumber.view_is

pub returns-in-SessionNumber-clause-shape : goal.returns-in-SessionNumber-clause-shape
returns-in-SessionNumber-clause-shape c = step_shape _ _ c.step-in-SessionNumber.new.self.replicators c.in-SessionNumber.remote _ c.self-in-SessionNumber.view_is c.step-in-SessionNumber.ensures.replicators

pub returns-in-SessionNumber-clause-room : goal.returns-in-SessionNumber-clause-room
returns-in-SessionNumber-clause-room c = rw c.in-SessionNumber.is (session_leaves c.args.sub_index c.in-SessionNumber.remote c.in-SessionNumber.session _ _ c.step-in-SessionNumber.new.self.room c.self-in-SessionNumber.view_is c.step-in-SessionNumber.ensures.room)
