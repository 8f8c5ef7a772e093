use Rattle.std.proofs.Common.{◌≡◌, ◌<◌, ◌∙◌, length, ap, arith}
use Rattle.std.proofs.lemmas.List.{get_or_default}
use Rattle.geo_base.specs.Subscription.{Subscription}
use Rattle.broker_subs.specs.Steps.{sub_written}
use Rattle.broker_subs.specs.SubView.{SubView}
use Rattle.broker_subs.specs.Table.{SubsView, sub_view_at, no_sub_view}
use Rattle.broker_subs.proofs.Places.{name_set, names_kept, room_at_place, room_set, set_named, sub_at_place, written_name}
use Rattle.broker_subs.proofs.table.SubTable.write.Goals as goal

pub invariant_of-self : goal.invariant_of-self
invariant_of-self g c =
    let items = c.self.inside.subs.items in
    let k = c.args.sub_index in
    let es = g.S.EntryStore.entries c.args.store.now in
    let view : items ≡ c.args.self.now.subs = ap (λ (t : SubsView). t.subs) c.self.view_is in
    let within : k < length items = omega (arith, c.requires.sub_index, ap length view) in
    let old : c.index_mut.result.now ≡ sub_view_at items k = c.index_mut.ensures.value ∙ get_or_default items k _ no_sub_view within in
    let is : c.write.new.self.sub ≡ sub_written es c.args.write (sub_view_at items k).sub = c.write.ensures.sub ∙ ap (λ (b : SubView). sub_written es c.args.write b.sub) old in
    record {
      places = c.self.invariant.places;
      names = names_kept items k c.write.new.self c.self.invariant.names within (ap (λ (s : Subscription). s.name) is ∙ written_name es c.args.write (sub_view_at items k).sub);
    }

pub returns-clause-subs : goal.returns-clause-subs
returns-clause-subs g c =
    let items = c.self.inside.subs.items in
    let k = c.args.sub_index in
    let es = g.S.EntryStore.entries c.args.store.now in
    let view : items ≡ c.args.self.now.subs = ap (λ (t : SubsView). t.subs) c.self.view_is in
    let within : k < length items = omega (arith, c.requires.sub_index, ap length view) in
    let old : c.index_mut.result.now ≡ sub_view_at items k = c.index_mut.ensures.value ∙ get_or_default items k _ no_sub_view within in
    let is : c.write.new.self.sub ≡ sub_written es c.args.write (sub_view_at items k).sub = c.write.ensures.sub ∙ ap (λ (b : SubView). sub_written es c.args.write b.sub) old in
    rw (← view, sub_at_place items k) (set_named (sub_written es c.args.write) items k c.write.new.self c.self.invariant.names within is)

pub returns-clause-names : goal.returns-clause-names
returns-clause-names g c =
    let items = c.self.inside.subs.items in
    let k = c.args.sub_index in
    let es = g.S.EntryStore.entries c.args.store.now in
    let view : items ≡ c.args.self.now.subs = ap (λ (t : SubsView). t.subs) c.self.view_is in
    let within : k < length items = omega (arith, c.requires.sub_index, ap length view) in
    let old : c.index_mut.result.now ≡ sub_view_at items k = c.index_mut.ensures.value ∙ get_or_default items k _ no_sub_view within in
    let is : c.write.new.self.sub ≡ sub_written es c.args.write (sub_view_at items k).sub = c.write.ensures.sub ∙ ap (λ (b : SubView). sub_written es c.args.write b.sub) old in
    rw (← view) (name_set items k c.write.new.self (ap (λ (s : Subscription). s.name) is ∙ written_name es c.args.write (sub_view_at items k).sub))

pub returns-clause-room : goal.returns-clause-room
returns-clause-room g c =
    let items = c.self.inside.subs.items in
    let k = c.args.sub_index in
    let view : items ≡ c.args.self.now.subs = ap (λ (t : SubsView). t.subs) c.self.view_is in
    let within : k < length items = omega (arith, c.requires.sub_index, ap length view) in
    let old : c.index_mut.result.now ≡ sub_view_at items k = c.index_mut.ensures.value ∙ get_or_default items k _ no_sub_view within in
    rw (← view, room_at_place items k, room_set items k c.write.new.self within) (c.write.ensures.room ∙ ap (λ (b : SubView). b.room) old)

pub returns-clause-acks : goal.returns-clause-acks
returns-clause-acks g c =
    let items = c.self.inside.subs.items in
    let k = c.args.sub_index in
    let view : items ≡ c.args.self.now.subs = ap (λ (t : SubsView). t.subs) c.self.view_is in
    let within : k < length items = omega (arith, c.requires.sub_index, ap length view) in
    let old : c.index_mut.result.now ≡ sub_view_at items k = c.index_mut.ensures.value ∙ get_or_default items k _ no_sub_view within in
    rw (← view, room_at_place items k, room_set items k c.write.new.self within) (rw old at c.write.ensures.acks)

pub write-requires : goal.write-requires
write-requires g c =
    let items = c.self.inside.subs.items in
    let k = c.args.sub_index in
    let view : items ≡ c.args.self.now.subs = ap (λ (t : SubsView). t.subs) c.self.view_is in
    let within : k < length items = omega (arith, c.requires.sub_index, ap length view) in
    let old : c.index_mut.result.now ≡ sub_view_at items k = c.index_mut.ensures.value ∙ get_or_default items k _ no_sub_view within in
    record {
      acks = rw old (rw (← view, room_at_place items k) at c.requires.acks);
      fits = rw old (rw (← view, sub_at_place items k) at c.requires.fits);
    }
