use Rattle.std.proofs.Common.{◌≡◌, ◌<◌, ◌∙◌, length, ap, sym, arith}
use Rattle.std.proofs.lemmas.List.{get_or_default}
use Rattle.geo_base.specs.Subscription.{Subscription}
use Rattle.broker_subs.specs.Steps.{sub_changed}
use Rattle.broker_subs.specs.SubView.{SubView}
use Rattle.broker_subs.specs.Table.{SubsView, sub_view_at, no_sub_view}
use Rattle.broker_subs.proofs.Places.{changed_name, name_set, names_kept, room_at_place, room_set, set_named, sub_at_place}
use Rattle.broker_subs.proofs.table.SubTable.change.Goals as goal

pub invariant_of-self : goal.invariant_of-self
invariant_of-self c =
    let items = c.self.inside.subs.items in
    let k = c.args.sub_index in
    let view : items ≡ c.args.self.now.subs = ap (λ (t : SubsView). t.subs) c.self.view_is in
    let within : k < length items = omega (arith, c.requires.sub_index, ap length view) in
    let old : c.index_mut.result.now ≡ sub_view_at items k = c.index_mut.ensures.value ∙ get_or_default items k _ no_sub_view within in
    let is : c.change.new.self.sub ≡ sub_changed c.args.change (sub_view_at items k).sub = c.change.ensures.sub ∙ ap (λ (b : SubView). sub_changed c.args.change b.sub) old in
    record {
      places = c.self.invariant.places;
      names = names_kept items k c.change.new.self c.self.invariant.names within (ap (λ (s : Subscription). s.name) is ∙ changed_name c.args.change (sub_view_at items k).sub);
    }

pub returns-clause-subs : goal.returns-clause-subs
returns-clause-subs c =
    let items = c.self.inside.subs.items in
    let k = c.args.sub_index in
    let view : items ≡ c.args.self.now.subs = ap (λ (t : SubsView). t.subs) c.self.view_is in
    let within : k < length items = omega (arith, c.requires.sub_index, ap length view) in
    let old : c.index_mut.result.now ≡ sub_view_at items k = c.index_mut.ensures.value ∙ get_or_default items k _ no_sub_view within in
    let is : c.change.new.self.sub ≡ sub_changed c.args.change (sub_view_at items k).sub = c.change.ensures.sub ∙ ap (λ (b : SubView). sub_changed c.args.change b.sub) old in
    rw (← view, sub_at_place items k) (set_named (sub_changed c.args.change) items k c.change.new.self c.self.invariant.names within is)

pub returns-clause-names : goal.returns-clause-names
returns-clause-names c =
    let items = c.self.inside.subs.items in
    let k = c.args.sub_index in
    let view : items ≡ c.args.self.now.subs = ap (λ (t : SubsView). t.subs) c.self.view_is in
    let within : k < length items = omega (arith, c.requires.sub_index, ap length view) in
    let old : c.index_mut.result.now ≡ sub_view_at items k = c.index_mut.ensures.value ∙ get_or_default items k _ no_sub_view within in
    let is : c.change.new.self.sub ≡ sub_changed c.args.change (sub_view_at items k).sub = c.change.ensures.sub ∙ ap (λ (b : SubView). sub_changed c.args.change b.sub) old in
    rw (← view) (name_set items k c.change.new.self (ap (λ (s : Subscription). s.name) is ∙ changed_name c.args.change (sub_view_at items k).sub))

pub returns-clause-room : goal.returns-clause-room
returns-clause-room c =
    let items = c.self.inside.subs.items in
    let k = c.args.sub_index in
    let view : items ≡ c.args.self.now.subs = ap (λ (t : SubsView). t.subs) c.self.view_is in
    let within : k < length items = omega (arith, c.requires.sub_index, ap length view) in
    let old : c.index_mut.result.now ≡ sub_view_at items k = c.index_mut.ensures.value ∙ get_or_default items k _ no_sub_view within in
    rw (← view, room_at_place items k, room_set items k c.change.new.self within) (ap (λ (b : SubView). b.room) (sym old) ∙ c.change.ensures.room)

pub change-requires : goal.change-requires
change-requires c =
    let items = c.self.inside.subs.items in
    let k = c.args.sub_index in
    let view : items ≡ c.args.self.now.subs = ap (λ (t : SubsView). t.subs) c.self.view_is in
    let within : k < length items = omega (arith, c.requires.sub_index, ap length view) in
    let old : c.index_mut.result.now ≡ sub_view_at items k = c.index_mut.ensures.value ∙ get_or_default items k _ no_sub_view within in
    record {
      room = rw old (rw (← view, room_at_place items k) at c.requires.room);
      fits = rw old (rw (← view, sub_at_place items k) at c.requires.fits);
    }
