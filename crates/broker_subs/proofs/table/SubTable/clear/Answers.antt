use Rattle.std.proofs.Common.{ap, ◌∙◌, ◌≡◌, arith}
use Rattle.std.specs.Prelude.{length, map}
use Rattle.std.proofs.lemmas.List.{length-map}
use Rattle.geo_base.specs.Subscription.{cleared}
use Rattle.broker_subs.specs.Table.{SubsView, with_sub}
use Rattle.broker_subs.proofs.Places.{cleared_names, left_whole, mapped_rooms, mapped_subs, names_cleared}
use Rattle.broker_subs.proofs.table.SubTable.clear.Goals as goal

pub invariant_of-self : goal.invariant_of-self
invariant_of-self c =
    let items = c.self.inside.subs.items in
    let new : c.clear_each.new.subs ≡ map (with_sub cleared) items = c.clear_each.ensures ∙ ap (map (with_sub cleared)) c.as_mut_slice.ensures.value in
    let many : length c.clear_each.new.subs ≡ c.self.inside.subs.len = omega (arith, ap length new, length-map items (with_sub cleared), c.self.inside.subs.ok.0) in
    record {
      places = c.self.invariant.places;
      names = rw (left_whole c.self.inside.subs.len c.clear_each.new.subs _ many, new, cleared_names items) c.self.invariant.names;
    }

pub returns-clause-subs : goal.returns-clause-subs
returns-clause-subs c =
    let items = c.self.inside.subs.items in
    let view : items ≡ c.args.self.now.subs = ap (λ (t : SubsView). t.subs) c.self.view_is in
    let new : c.clear_each.new.subs ≡ map (with_sub cleared) items = c.clear_each.ensures ∙ ap (map (with_sub cleared)) c.as_mut_slice.ensures.value in
    let many : length c.clear_each.new.subs ≡ c.self.inside.subs.len = omega (arith, ap length new, length-map items (with_sub cleared), c.self.inside.subs.ok.0) in
    rw (left_whole c.self.inside.subs.len c.clear_each.new.subs _ many, new, ← view) (mapped_subs cleared items)

pub returns-clause-rooms : goal.returns-clause-rooms
returns-clause-rooms c =
    let items = c.self.inside.subs.items in
    let view : items ≡ c.args.self.now.subs = ap (λ (t : SubsView). t.subs) c.self.view_is in
    let new : c.clear_each.new.subs ≡ map (with_sub cleared) items = c.clear_each.ensures ∙ ap (map (with_sub cleared)) c.as_mut_slice.ensures.value in
    let many : length c.clear_each.new.subs ≡ c.self.inside.subs.len = omega (arith, ap length new, length-map items (with_sub cleared), c.self.inside.subs.ok.0) in
    rw (left_whole c.self.inside.subs.len c.clear_each.new.subs _ many, new, ← view) (mapped_rooms cleared items)

pub returns-clause-names : goal.returns-clause-names
returns-clause-names c =
    let items = c.self.inside.subs.items in
    let view : items ≡ c.args.self.now.subs = ap (λ (t : SubsView). t.subs) c.self.view_is in
    let new : c.clear_each.new.subs ≡ map (with_sub cleared) items = c.clear_each.ensures ∙ ap (map (with_sub cleared)) c.as_mut_slice.ensures.value in
    let many : length c.clear_each.new.subs ≡ c.self.inside.subs.len = omega (arith, ap length new, length-map items (with_sub cleared), c.self.inside.subs.ok.0) in
    rw (left_whole c.self.inside.subs.len c.clear_each.new.subs _ many, new, ← view) (names_cleared items)
