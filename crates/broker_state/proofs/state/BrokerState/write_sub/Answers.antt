use Rattle.std.proofs.Common.{◌≡◌, ◌∙◌, ℕ, List, ap, sym, subst, length, arith}
use Rattle.std.proofs.lemmas.List.{length-map}
use Rattle.geo_base.specs.Broker.{Broker, written}
use Rattle.geo_base.specs.Subscription.{Subscription}
use Rattle.broker_subs.specs.Steps.{machine_sub_write}
use Rattle.broker_subs.specs.SubView.{sub_of, subs_of}
use Rattle.broker_subs.specs.Table.{rooms_of, sub_at}
use Rattle.broker_state.specs.Room.{Room}
use Rattle.broker_state.specs.State.{StateView}
use Rattle.broker_state.proofs.Steps.{sub_written_is}
use Rattle.broker_state.proofs.state.BrokerState.write_sub.Goals as goal

pub write-requires : goal.write-requires
write-requires c =
    let subs : subs_of c.self.inside.subs.subs ≡ c.args.self.now.broker.subs = ap (λ (b : StateView). b.broker.subs) c.self.view_is in
    let rooms : rooms_of c.self.inside.subs.subs ≡ c.args.self.now.room.subs = ap (λ (b : StateView). b.room.subs) c.self.view_is in
    let entries : c.self.inside.store.entries ≡ c.args.self.now.broker.entries = ap (λ (b : StateView). b.broker.entries) c.self.view_is in
    record {
      sub_index = omega (arith, c.requires.sub_index, ap (λ (b : StateView). length b.broker.subs) c.self.view_is, length-map c.self.inside.subs.subs sub_of);
      acks = rw rooms c.requires.acks;
      fits = rw (subs, entries) c.requires.fits;
    }

pub returns-clause-broker : goal.returns-clause-broker
returns-clause-broker c =
    let i = c.self.inside in
    let t : StateView = record {
      site = i.site;
      broker = record { entries = i.store.entries; ledgers = i.store.ledgers; replicators = i.replicators.replicators; receivers = i.receivers.items; subs = subs_of i.subs.subs; sessions = i.sessions.items; builder = i.builder };
      room = record { entries = i.store.spare; streams = i.dedup.room; places = i.subs.room; subs = rooms_of i.subs.subs; replicators = i.replicators.room };
    } in
    subst
    (λ (v : StateView). ◌≡◌ {A = Broker} (record t.broker { subs = subs_of c.write.new.self.subs }) (written v.site.per_ledger v.broker (machine_sub_write (sub_at v.broker.subs c.args.sub_index).name v.broker.entries c.args.write)))
    c.self.view_is
    (ap (λ (ss : List Subscription). record t.broker { subs = ss }) c.write.ensures.subs ∙ sym (sub_written_is t.site.per_ledger t.broker (sub_at t.broker.subs c.args.sub_index).name t.broker.entries c.args.write))

pub returns-clause-names : goal.returns-clause-names
returns-clause-names c =
    let subs : subs_of c.self.inside.subs.subs ≡ c.args.self.now.broker.subs = ap (λ (b : StateView). b.broker.subs) c.self.view_is in
    rw (← subs) c.write.ensures.names

pub returns-clause-room : goal.returns-clause-room
returns-clause-room c =
    let rooms : rooms_of c.self.inside.subs.subs ≡ c.args.self.now.room.subs = ap (λ (b : StateView). b.room.subs) c.self.view_is in
    rw (← rooms) c.write.ensures.room

pub returns-clause-acks : goal.returns-clause-acks
returns-clause-acks c =
    let rooms : rooms_of c.self.inside.subs.subs ≡ c.args.self.now.room.subs = ap (λ (b : StateView). b.room.subs) c.self.view_is in
    rw (← rooms) c.write.ensures.acks

pub returns-clause-rest : goal.returns-clause-rest
returns-clause-rest c =
    let i = c.self.inside in
    let t : StateView = record {
      site = i.site;
      broker = record { entries = i.store.entries; ledgers = i.store.ledgers; replicators = i.replicators.replicators; receivers = i.receivers.items; subs = subs_of i.subs.subs; sessions = i.sessions.items; builder = i.builder };
      room = record { entries = i.store.spare; streams = i.dedup.room; places = i.subs.room; subs = rooms_of i.subs.subs; replicators = i.replicators.room };
    } in
    let s = rooms_of c.write.new.self.subs in
    subst
    (λ (v : StateView). ◌≡◌ {A = Room} (record t.room { places = c.write.new.self.room; subs = s }) (record v.room { subs = s }))
    c.self.view_is
    (ap (λ (n : ℕ). record t.room { places = n; subs = s }) c.write.ensures.places)
