use Rattle.std.proofs.Common.{◌≡◌, ◌∙◌, ◌++◌, ◌∷◌, [], ℕ, List, ap, sym, refl, subst, length, arith}
use Rattle.std.proofs.lemmas.List.{length-map}
use Rattle.std.specs.Prelude.{None, if◌then◌else◌}
use Rattle.geo_base.specs.Broker.{Broker, sub_named, written}
use Rattle.geo_base.specs.Cursor.{below}
use Rattle.geo_base.specs.Subscription.{Subscription, new_subscription}
use Rattle.geo_base.specs.declared.write.Write.TheVariants as write
use Rattle.broker_subs.specs.SubView.{sub_of, subs_of}
use Rattle.broker_subs.specs.Table.{rooms_of}
use Rattle.broker_state.specs.Room.{Room}
use Rattle.broker_state.specs.State.{StateView}
use Rattle.broker_state.proofs.Steps.{created_is}
use Rattle.broker_state.proofs.state.BrokerState.create.Goals as goal

pub create-requires : goal.create-requires
create-requires c =
    let subs : subs_of c.self.inside.subs.subs ≡ c.args.self.now.broker.subs = ap (λ (b : StateView). b.broker.subs) c.self.view_is in
    record {
      new = c.requires.new;
      room = omega (arith, c.requires.places, ap (λ (b : StateView). b.room.places) c.self.view_is);
      acks = c.requires.acks;
      absent = rw subs c.requires.absent;
    }

pub returns-clause-broker : goal.returns-clause-broker
returns-clause-broker c =
    let i = c.self.inside in
    let t : StateView = record {
      site = i.site;
      broker = record { entries = i.store.entries; ledgers = i.store.ledgers; replicators = i.replicators.replicators; receivers = i.receivers.items; subs = subs_of i.subs.subs; sessions = i.sessions.items; builder = i.builder };
      room = record { entries = i.store.spare; streams = i.dedup.room; places = i.subs.room; subs = rooms_of i.subs.subs; replicators = i.replicators.room };
    } in
    let subs : subs_of c.self.inside.subs.subs ≡ c.args.self.now.broker.subs = ap (λ (b : StateView). b.broker.subs) c.self.view_is in
    let s = c.args.sub.sub in
    let absent : sub_named (subs_of i.subs.subs) s.name ≡ None = rw subs c.requires.absent in
    let new : subs_of c.create.new.self.subs ≡ subs_of i.subs.subs ++ new_subscription s.name s.kind s.replicated (if c.args.latest then below (length i.store.entries) else []) ∷ [] =
    c.create.ensures.subs ∙ ap (λ (n : ℕ). subs_of i.subs.subs ++ new_subscription s.name s.kind s.replicated (if c.args.latest then below n else []) ∷ []) c.len-len.ensures.len in
    subst
    (λ (v : StateView). ◌≡◌ {A = Broker} (record t.broker { subs = subs_of c.create.new.self.subs }) (written v.site.per_ledger v.broker (write.Create s.name s.kind s.replicated c.args.latest)))
    c.self.view_is
    (ap (λ (ss : List Subscription). record t.broker { subs = ss }) new ∙ sym (created_is t.site.per_ledger t.broker s.name s.kind s.replicated c.args.latest absent))

pub returns-clause-names : goal.returns-clause-names
returns-clause-names c =
    let subs : subs_of c.self.inside.subs.subs ≡ c.args.self.now.broker.subs = ap (λ (b : StateView). b.broker.subs) c.self.view_is in
    rw (← subs) c.create.ensures.names

pub returns-clause-places : goal.returns-clause-places
returns-clause-places c = omega (arith, c.create.ensures.places, ap (λ (b : StateView). b.room.places) c.self.view_is)

pub returns-clause-room : goal.returns-clause-room
returns-clause-room c =
    let many : length c.args.self.now.broker.subs ≡ length c.self.inside.subs.subs = sym (ap (λ (b : StateView). length b.broker.subs) c.self.view_is) ∙ length-map c.self.inside.subs.subs sub_of in
    rw many c.create.ensures.room

pub returns-clause-acks : goal.returns-clause-acks
returns-clause-acks c =
    let many : length c.args.self.now.broker.subs ≡ length c.self.inside.subs.subs = sym (ap (λ (b : StateView). length b.broker.subs) c.self.view_is) ∙ length-map c.self.inside.subs.subs sub_of in
    rw many c.create.ensures.acks

pub returns-clause-rest : goal.returns-clause-rest
returns-clause-rest c =
    let i = c.self.inside in
    let t : StateView = record {
      site = i.site;
      broker = record { entries = i.store.entries; ledgers = i.store.ledgers; replicators = i.replicators.replicators; receivers = i.receivers.items; subs = subs_of i.subs.subs; sessions = i.sessions.items; builder = i.builder };
      room = record { entries = i.store.spare; streams = i.dedup.room; places = i.subs.room; subs = rooms_of i.subs.subs; replicators = i.replicators.room };
    } in
    let p = c.create.new.self.room in
    let s = rooms_of c.create.new.self.subs in
    subst (λ (v : StateView). ◌≡◌ {A = Room} (record t.room { places = p; subs = s }) (record v.room { places = p; subs = s })) c.self.view_is refl
