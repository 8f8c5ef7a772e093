use Rattle.std.proofs.Common.{List, [], ◌∷◌, ◌++◌, length, ap, ◌≡◌, ◌∙◌, arith}
use Rattle.std.specs.Prelude.{None}
use Rattle.geo_base.specs.Broker.{sub_named}
use Rattle.geo_base.specs.Subscription.{Subscription}
use Rattle.broker_subs.specs.SubView.{SubView, subs_of}
use Rattle.broker_subs.specs.Table.{SubsView, SubRoom, names_of, room_at, rooms_of}
use Rattle.broker_subs.proofs.Places.{name_pushed, names_pushed, pushed_subs, room_pushed}
use Rattle.broker_subs.proofs.table.SubTable.create.Goals as goal

pub invariant_of-self : goal.invariant_of-self
invariant_of-self c =
    let items = c.self.inside.subs.items in
    let view : items ≡ c.args.self.now.subs = ap (λ (t : SubsView). t.subs) c.self.view_is in
    let name : c.created.result.sub.name ≡ c.args.sub.sub.name = ap (λ (s : Subscription). s.name) c.created.ensures.sub in
    let absent : sub_named (subs_of items) c.created.result.sub.name ≡ None = rw (view, name) c.requires.absent in
    record {
      places = omega (arith, c.self.invariant.places, c.push_reserved.ensures.len, c.push_reserved.ensures.capacity, c.requires.room, ap (λ (t : SubsView). t.room) c.self.view_is);
      names = rw c.push_reserved.ensures.items (names_pushed items c.created.result c.self.invariant.names absent);
    }

pub returns-clause-subs : goal.returns-clause-subs
returns-clause-subs c =
    let items = c.self.inside.subs.items in
    let view : items ≡ c.args.self.now.subs = ap (λ (t : SubsView). t.subs) c.self.view_is in
    rw (← view) (ap subs_of c.push_reserved.ensures.items ∙ pushed_subs items c.created.result ∙ ap (λ (s : Subscription). subs_of items ++ s ∷ []) c.created.ensures.sub)

pub returns-clause-names : goal.returns-clause-names
returns-clause-names c =
    let items = c.self.inside.subs.items in
    let view : items ≡ c.args.self.now.subs = ap (λ (t : SubsView). t.subs) c.self.view_is in
    rw (← view) (ap (λ (bs : List SubView). names_of (subs_of bs)) c.push_reserved.ensures.items ∙ name_pushed items c.created.result ∙ ap (λ (s : Subscription). names_of (subs_of items) ++ s.name ∷ []) c.created.ensures.sub)

pub returns-clause-room : goal.returns-clause-room
returns-clause-room c =
    let items = c.self.inside.subs.items in
    let view : items ≡ c.args.self.now.subs = ap (λ (t : SubsView). t.subs) c.self.view_is in
    rw (← view) (ap (λ (bs : List SubView). (room_at (rooms_of bs) (length items)).room) c.push_reserved.ensures.items ∙ ap (λ (r : SubRoom). r.room) (room_pushed items c.created.result) ∙ c.created.ensures.room)

pub returns-clause-acks : goal.returns-clause-acks
returns-clause-acks c =
    let items = c.self.inside.subs.items in
    let view : items ≡ c.args.self.now.subs = ap (λ (t : SubsView). t.subs) c.self.view_is in
    let acks : (room_at (rooms_of c.push_reserved.new.self.items) (length items)).acks ≡ c.created.result.acks =
    ap (λ (bs : List SubView). (room_at (rooms_of bs) (length items)).acks) c.push_reserved.ensures.items ∙ ap (λ (r : SubRoom). r.acks) (room_pushed items c.created.result) in
    rw (← view) (omega (arith, acks, c.created.ensures.acks))
