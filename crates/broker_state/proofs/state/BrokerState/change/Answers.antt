use Rattle.std.proofs.Common.{◌∙◌, ap, length, arith}
use Rattle.std.proofs.lemmas.List.{length-map, length-set}
use Rattle.std.specs.Prelude.{None, Option, ℕ}
use Rattle.geo_base.specs.declared.session.Session.{Session}
use Rattle.geo_base.specs.Broker.{Broker, replicator_at}
use Rattle.geo_base.specs.Replicator.{replicator_restarted}
use Rattle.broker_subs.specs.Table.{names_of, sub_at}
use Rattle.broker_state.specs.Room.{Room}
use Rattle.broker_state.specs.Replicators.{stepped}
use Rattle.broker_state.specs.State.{StateView}
use Rattle.broker_state.specs.declared.change.StateChange.TheVariants as state_change
use Rattle.broker_state.specs.declared.replicator_row.ReplicatorStep.TheVariants as replicator_step
use Rattle.broker_state.proofs.ReplicatorSteps.{room_kept, step_leaves, step_replicator, step_shape}
use Rattle.broker_state.proofs.Steps.{sub_changed_is}
use Rattle.broker_state.proofs.state.BrokerState.change.Goals as goal

pub receive-requires : goal.receive-requires
receive-requires c = rw c.in-Receiver.is at c.requires.fits

pub returns-in-Receiver-clause-broker : goal.returns-in-Receiver-clause-broker
returns-in-Receiver-clause-broker c = rw c.in-Receiver.is (ap (λ (b : StateView). b.broker) c.receive.ensures)

pub returns-in-Receiver-clause-names : goal.returns-in-Receiver-clause-names
returns-in-Receiver-clause-names c = ap (λ (b : StateView). names_of b.broker.subs) c.receive.ensures

pub returns-in-Receiver-clause-site : goal.returns-in-Receiver-clause-site
returns-in-Receiver-clause-site c = ap (λ (b : StateView). b.site) c.receive.ensures

pub returns-in-Receiver-clause-shape : goal.returns-in-Receiver-clause-shape
returns-in-Receiver-clause-shape c = record {
  replicators = ap (λ (b : StateView). length b.broker.replicators) c.receive.ensures;
  receivers = ap (λ (b : StateView). length b.broker.receivers) c.receive.ensures ∙ length-set c.args.self.now.broker.receivers c.in-Receiver.source c.in-Receiver.session;
  sessions = ap (λ (b : StateView). length b.broker.sessions) c.receive.ensures;
}

pub returns-in-Receiver-clause-room : goal.returns-in-Receiver-clause-room
returns-in-Receiver-clause-room c = room_kept c.args.sub_index c.args.change _ _ (ap (λ (b : StateView). b.room) c.receive.ensures)

pub have_open-requires : goal.have_open-requires
have_open-requires c = rw c.in-Client.is at c.requires.fits

pub returns-in-Client-clause-broker : goal.returns-in-Client-clause-broker
returns-in-Client-clause-broker c = rw c.in-Client.is (ap (λ (b : StateView). b.broker) c.have_open.ensures)

pub returns-in-Client-clause-names : goal.returns-in-Client-clause-names
returns-in-Client-clause-names c = ap (λ (b : StateView). names_of b.broker.subs) c.have_open.ensures

pub returns-in-Client-clause-site : goal.returns-in-Client-clause-site
returns-in-Client-clause-site c = ap (λ (b : StateView). b.site) c.have_open.ensures

pub returns-in-Client-clause-shape : goal.returns-in-Client-clause-shape
returns-in-Client-clause-shape c = record {
  replicators = ap (λ (b : StateView). length b.broker.replicators) c.have_open.ensures;
  receivers = ap (λ (b : StateView). length b.broker.receivers) c.have_open.ensures;
  sessions = ap (λ (b : StateView). length b.broker.sessions) c.have_open.ensures ∙ length-set c.args.self.now.broker.sessions c.in-Client.client c.in-Client.session;
}

pub returns-in-Client-clause-room : goal.returns-in-Client-clause-room
returns-in-Client-clause-room c = room_kept c.args.sub_index c.args.change _ _ (ap (λ (b : StateView). b.room) c.have_open.ensures)

pub returns-in-Building-clause-broker : goal.returns-in-Building-clause-broker
returns-in-Building-clause-broker c = rw c.in-Building.is (ap (λ (b : StateView). b.broker) c.build.ensures)

pub returns-in-Building-clause-names : goal.returns-in-Building-clause-names
returns-in-Building-clause-names c = ap (λ (b : StateView). names_of b.broker.subs) c.build.ensures

pub returns-in-Building-clause-site : goal.returns-in-Building-clause-site
returns-in-Building-clause-site c = ap (λ (b : StateView). b.site) c.build.ensures

pub returns-in-Building-clause-shape : goal.returns-in-Building-clause-shape
returns-in-Building-clause-shape c = record {
  replicators = ap (λ (b : StateView). length b.broker.replicators) c.build.ensures;
  receivers = ap (λ (b : StateView). length b.broker.receivers) c.build.ensures;
  sessions = ap (λ (b : StateView). length b.broker.sessions) c.build.ensures;
}

pub returns-in-Building-clause-room : goal.returns-in-Building-clause-room
returns-in-Building-clause-room c = room_kept c.args.sub_index c.args.change _ _ (ap (λ (b : StateView). b.room) c.build.ensures)

pub returns-in-Forget-clause-broker : goal.returns-in-Forget-clause-broker
returns-in-Forget-clause-broker c = rw c.in-Forget.is c.forget.ensures.broker

pub returns-in-Forget-clause-shape : goal.returns-in-Forget-clause-shape
returns-in-Forget-clause-shape c = record {
  replicators = ap (λ (b : Broker). length b.replicators) c.forget.ensures.broker ∙ length-map c.args.self.now.broker.replicators replicator_restarted;
  receivers = ap (λ (b : Broker). length b.receivers) c.forget.ensures.broker ∙ length-map c.args.self.now.broker.receivers (λ (r : Option ℕ). None);
  sessions = ap (λ (b : Broker). length b.sessions) c.forget.ensures.broker ∙ length-map c.args.self.now.broker.sessions (λ (s : Option Session). None);
}

pub returns-in-Forget-clause-room : goal.returns-in-Forget-clause-room
returns-in-Forget-clause-room c = room_kept c.args.sub_index c.args.change _ _ c.forget.ensures.room

pub change_sub-requires : goal.change_sub-requires
change_sub-requires c = record {
  sub_index = rw c.in-Sub.is at c.requires.sub_index;
  room = rw c.in-Sub.is at c.requires.room;
  fits = rw c.in-Sub.is at c.requires.fits;
}

pub returns-in-Sub-clause-broker : goal.returns-in-Sub-clause-broker
returns-in-Sub-clause-broker c = rw c.in-Sub.is c.change_sub.ensures.broker

pub returns-in-Sub-clause-shape : goal.returns-in-Sub-clause-shape
returns-in-Sub-clause-shape c =
    let b = c.args.self.now.broker in
    let is = c.change_sub.ensures.broker ∙ sub_changed_is b (sub_at b.subs c.args.sub_index).name c.in-Sub.change in
    record {
      replicators = ap (λ (x : Broker). length x.replicators) is;
      receivers = ap (λ (x : Broker). length x.receivers) is;
      sessions = ap (λ (x : Broker). length x.sessions) is;
    }

pub returns-in-Sub-clause-room : goal.returns-in-Sub-clause-room
returns-in-Sub-clause-room c = rw c.in-Sub.is (record {
  room = omega (arith, c.change_sub.ensures.room);
  replicators = omega (arith, ap (λ (r : Room). r.replicators) c.change_sub.ensures.rest);
})

pub step-requires : goal.step-requires
step-requires c =
    let fits = rw c.in-Opening.is at c.requires.fits in
    record {
      remote = omega (arith, fits, ap (λ (b : StateView). length b.broker.replicators) c.self-in-Opening.view_is);
      room = omega arith;
      fits = tt;
    }

pub returns-in-Opening-clause-broker : goal.returns-in-Opening-clause-broker
returns-in-Opening-clause-broker c = rw c.in-Opening.is (step_replicator _ _ c.step.new.self.replicators c.in-Opening.remote (stepped replicator_step.Begin) c.self-in-Opening.view_is c.step.ensures.replicators)

pub returns-in-Opening-clause-names : goal.returns-in-Opening-clause-names
returns-in-Opening-clause-names c = ap (λ (b : StateView). names_of b.broker.subs) c.self-in-Opening.view_is

pub returns-in-Opening-clause-site : goal.returns-in-Opening-clause-site
returns-in-Opening-clause-site c = ap (λ (b : StateView). b.site) c.self-in-Opening.view_is

pub returns-in-Opening-clause-shape : goal.returns-in-Opening-clause-shape
returns-in-Opening-clause-shape c = step_shape _ _ c.step.new.self.replicators c.in-Opening.remote _ c.self-in-Opening.view_is c.step.ensures.replicators

pub returns-in-Opening-clause-room : goal.returns-in-Opening-clause-room
returns-in-Opening-clause-room c = rw c.in-Opening.is (step_leaves c.args.sub_index (state_change.Opening c.in-Opening.remote) _ _ c.step.new.self.room c.self-in-Opening.view_is (omega (arith, c.step.ensures.room)))

pub step-requires-in-Opened : goal.step-requires-in-Opened
step-requires-in-Opened c =
    let fits = rw c.in-Opened.is at c.requires.fits in
    record {
      remote = omega (arith, fits, ap (λ (b : StateView). length b.broker.replicators) c.self-in-Opened.view_is);
      room = omega arith;
      fits = tt;
    }

pub returns-in-Opened-clause-broker : goal.returns-in-Opened-clause-broker
returns-in-Opened-clause-broker c = rw c.in-Opened.is (step_replicator _ _ c.step-in-Opened.new.self.replicators c.in-Opened.remote (stepped replicator_step.Opened) c.self-in-Opened.view_is c.step-in-Opened.ensures.replicators)

pub returns-in-Opened-clause-names : goal.returns-in-Opened-clause-names
returns-in-Opened-clause-names c = ap (λ (b : StateView). names_of b.broker.subs) c.self-in-Opened.view_is

pub returns-in-Opened-clause-site : goal.returns-in-Opened-clause-site
returns-in-Opened-clause-site c = ap (λ (b : StateView). b.site) c.self-in-Opened.view_is

pub returns-in-Opened-clause-shape : goal.returns-in-Opened-clause-shape
returns-in-Opened-clause-shape c = step_shape _ _ c.step-in-Opened.new.self.replicators c.in-Opened.remote _ c.self-in-Opened.view_is c.step-in-Opened.ensures.replicators

pub returns-in-Opened-clause-room : goal.returns-in-Opened-clause-room
returns-in-Opened-clause-room c = rw c.in-Opened.is (step_leaves c.args.sub_index (state_change.Opened c.in-Opened.remote) _ _ c.step-in-Opened.new.self.room c.self-in-Opened.view_is (omega (arith, c.step-in-Opened.ensures.room)))

pub step-requires-in-Pend : goal.step-requires-in-Pend
step-requires-in-Pend c =
    let fits = rw c.in-Pend.is at c.requires.fits in
    let many = rw c.in-Pend.is at c.requires.replicators in
    record {
      remote = omega (arith, fits.0, ap (λ (b : StateView). length b.broker.replicators) c.self-in-Pend.view_is);
      room = omega (arith, many, ap (λ (b : StateView). b.room.replicators) c.self-in-Pend.view_is);
      fits = (omega (arith, fits.1, ap (λ (b : StateView). (replicator_at b.broker c.in-Pend.remote).next) c.self-in-Pend.view_is), fits.2);
    }

pub returns-in-Pend-clause-broker : goal.returns-in-Pend-clause-broker
returns-in-Pend-clause-broker c = rw c.in-Pend.is (step_replicator _ _ c.step-in-Pend.new.self.replicators c.in-Pend.remote (stepped (replicator_step.Pend c.in-Pend.index)) c.self-in-Pend.view_is c.step-in-Pend.ensures.replicators)

pub returns-in-Pend-clause-names : goal.returns-in-Pend-clause-names
returns-in-Pend-clause-names c = ap (λ (b : StateView). names_of b.broker.subs) c.self-in-Pend.view_is

pub returns-in-Pend-clause-site : goal.returns-in-Pend-clause-site
returns-in-Pend-clause-site c = ap (λ (b : StateView). b.site) c.self-in-Pend.view_is

pub returns-in-Pend-clause-shape : goal.returns-in-Pend-clause-shape
returns-in-Pend-clause-shape c = step_shape _ _ c.step-in-Pend.new.self.replicators c.in-Pend.remote _ c.self-in-Pend.view_is c.step-in-Pend.ensures.replicators

pub returns-in-Pend-clause-room : goal.returns-in-Pend-clause-room
returns-in-Pend-clause-room c = rw c.in-Pend.is (step_leaves c.args.sub_index (state_change.Pend c.in-Pend.remote c.in-Pend.index) _ _ c.step-in-Pend.new.self.room c.self-in-Pend.view_is (omega (arith, c.step-in-Pend.ensures.room)))

pub step-requires-in-ReadTo : goal.step-requires-in-ReadTo
step-requires-in-ReadTo c =
    let fits = rw c.in-ReadTo.is at c.requires.fits in
    record {
      remote = omega (arith, fits.0, ap (λ (b : StateView). length b.broker.replicators) c.self-in-ReadTo.view_is);
      room = omega arith;
      fits = omega (arith, fits.1, ap (λ (b : StateView). (replicator_at b.broker c.in-ReadTo.remote).next) c.self-in-ReadTo.view_is);
    }

pub returns-in-ReadTo-clause-broker : goal.returns-in-ReadTo-clause-broker
returns-in-ReadTo-clause-broker c = rw c.in-ReadTo.is (step_replicator _ _ c.step-in-ReadTo.new.self.replicators c.in-ReadTo.remote (stepped (replicator_step.ReadTo c.in-ReadTo.index)) c.self-in-ReadTo.view_is c.step-in-ReadTo.ensures.replicators)

pub returns-in-ReadTo-clause-names : goal.returns-in-ReadTo-clause-names
returns-in-ReadTo-clause-names c = ap (λ (b : StateView). names_of b.broker.subs) c.self-in-ReadTo.view_is

pub returns-in-ReadTo-clause-site : goal.returns-in-ReadTo-clause-site
returns-in-ReadTo-clause-site c = ap (λ (b : StateView). b.site) c.self-in-ReadTo.view_is

pub returns-in-ReadTo-clause-shape : goal.returns-in-ReadTo-clause-shape
returns-in-ReadTo-clause-shape c = step_shape _ _ c.step-in-ReadTo.new.self.replicators c.in-ReadTo.remote _ c.self-in-ReadTo.view_is c.step-in-ReadTo.ensures.replicators

pub returns-in-ReadTo-clause-room : goal.returns-in-ReadTo-clause-room
returns-in-ReadTo-clause-room c = rw c.in-ReadTo.is (step_leaves c.args.sub_index (state_change.ReadTo c.in-ReadTo.remote c.in-ReadTo.index) _ _ c.step-in-ReadTo.new.self.room c.self-in-ReadTo.view_is (omega (arith, c.step-in-ReadTo.ensures.room)))

pub step-requires-in-Unpend : goal.step-requires-in-Unpend
step-requires-in-Unpend c =
    let fits = rw c.in-Unpend.is at c.requires.fits in
    record {
      remote = omega (arith, fits, ap (λ (b : StateView). length b.broker.replicators) c.self-in-Unpend.view_is);
      room = omega arith;
      fits = tt;
    }

pub returns-in-Unpend-clause-broker : goal.returns-in-Unpend-clause-broker
returns-in-Unpend-clause-broker c = rw c.in-Unpend.is (step_replicator _ _ c.step-in-Unpend.new.self.replicators c.in-Unpend.remote (stepped (replicator_step.Unpend c.in-Unpend.number)) c.self-in-Unpend.view_is c.step-in-Unpend.ensures.replicators)

pub returns-in-Unpend-clause-names : goal.returns-in-Unpend-clause-names
returns-in-Unpend-clause-names c = ap (λ (b : StateView). names_of b.broker.subs) c.self-in-Unpend.view_is

pub returns-in-Unpend-clause-site : goal.returns-in-Unpend-clause-site
returns-in-Unpend-clause-site c = ap (λ (b : StateView). b.site) c.self-in-Unpend.view_is

pub returns-in-Unpend-clause-shape : goal.returns-in-Unpend-clause-shape
returns-in-Unpend-clause-shape c = step_shape _ _ c.step-in-Unpend.new.self.replicators c.in-Unpend.remote _ c.self-in-Unpend.view_is c.step-in-Unpend.ensures.replicators

pub returns-in-Unpend-clause-room : goal.returns-in-Unpend-clause-room
returns-in-Unpend-clause-room c = rw c.in-Unpend.is (step_leaves c.args.sub_index (state_change.Unpend c.in-Unpend.remote c.in-Unpend.number) _ _ c.step-in-Unpend.new.self.room c.self-in-Unpend.view_is (omega (arith, c.step-in-Unpend.ensures.room)))
