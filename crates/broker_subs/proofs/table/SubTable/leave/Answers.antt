use Rattle.std.proofs.Common.{ap, ◌∙◌, ◌≡◌, arith}
use Rattle.std.specs.Prelude.{length, map}
use Rattle.std.proofs.lemmas.List.{length-map}
use Rattle.geo_base.specs.Subscription.{detached}
use Rattle.broker_subs.specs.Table.{SubsView, with_sub}
use Rattle.broker_subs.proofs.Places.{detached_names, left_whole, mapped_rooms, mapped_subs, names_left}
use Rattle.broker_subs.proofs.table.SubTable.leave.Goals as goal

pub invariant_of-self : goal.invariant_of-self
invariant_of-self c =
    let items = c.self.inside.subs.items in
    let new : c.leave_each.new.subs ≡ map (with_sub (detached c.args.client)) items = c.leave_each.ensures ∙ ap (map (with_sub (detached c.args.client))) c.as_mut_slice.ensures.value in
    let many : length c.leave_each.new.subs ≡ c.self.inside.subs.len = omega (arith, ap length new, length-map items (with_sub (detached c.args.client)), c.self.inside.subs.ok.0) in
    record {
      places = c.self.invariant.places;
      names = rw (left_whole c.self.inside.subs.len c.leave_each.new.subs _ many, new, detached_names c.args.client items) c.self.invariant.names;
    }

pub returns-clause-subs : goal.returns-clause-subs
returns-clause-subs c =
    let items = c.self.inside.subs.items in
    let view : items ≡ c.args.self.now.subs = ap (λ (t : SubsView). t.subs) c.self.view_is in
    let new : c.leave_each.new.subs ≡ map (with_sub (detached c.args.client)) items = c.leave_each.ensures ∙ ap (map (with_sub (detached c.args.client))) c.as_mut_slice.ensures.value in
    let many : length c.leave_each.new.subs ≡ c.self.inside.subs.len = omega (arith, ap length new, length-map items (with_sub (detached c.args.client)), c.self.inside.subs.ok.0) in
    rw (left_whole c.self.inside.subs.len c.leave_each.new.subs _ many, new, ← view) (mapped_subs (detached c.args.client) items)

pub returns-clause-rooms : goal.returns-clause-rooms
returns-clause-rooms c =
    let items = c.self.inside.subs.items in
    let view : items ≡ c.args.self.now.subs = ap (λ (t : SubsView). t.subs) c.self.view_is in
    let new : c.leave_each.new.subs ≡ map (with_sub (detached c.args.client)) items = c.leave_each.ensures ∙ ap (map (with_sub (detached c.args.client))) c.as_mut_slice.ensures.value in
    let many : length c.leave_each.new.subs ≡ c.self.inside.subs.len = omega (arith, ap length new, length-map items (with_sub (detached c.args.client)), c.self.inside.subs.ok.0) in
    rw (left_whole c.self.inside.subs.len c.leave_each.new.subs _ many, new, ← view) (mapped_rooms (detached c.args.client) items)

pub returns-clause-names : goal.returns-clause-names
returns-clause-names c =
    let items = c.self.inside.subs.items in
    let view : items ≡ c.args.self.now.subs = ap (λ (t : SubsView). t.subs) c.self.view_is in
    let new : c.leave_each.new.subs ≡ map (with_sub (detached c.args.client)) items = c.leave_each.ensures ∙ ap (map (with_sub (detached c.args.client))) c.as_mut_slice.ensures.value in
    let many : length c.leave_each.new.subs ≡ c.self.inside.subs.len = omega (arith, ap length new, length-map items (with_sub (detached c.args.client)), c.self.inside.subs.ok.0) in
    rw (left_whole c.self.inside.subs.len c.leave_each.new.subs _ many, new, ← view) (names_left c.args.client items)
