use Rattle.std.proofs.Common.{◌≡◌, ◌∙◌, List, map, set, position, sym, ap}
use Rattle.std.specs.Prelude.{Some}
use Rattle.geo_base.specs.Subscription.{Subscription}
use Rattle.durable_parts.specs.declared.durable.DurableSub.{DurableSub}
use Rattle.durable_parts.specs.Changed.{with_part}
use Rattle.durable_parts.specs.Parts.{AreNamedApart, sub_of, subs_of}
use Rattle.durable_parts.proofs.Named.{changed_at, is_named, nothing_changed, part_keeps_name, still_apart, with_name}
use Rattle.durable_parts.proofs.subs.DurableSubs.set.Goals as goal

-- the parts after the change, at the place of the name
changed : (c : goal.After-self-1) → subs_of (set c.self.inside.subs.items c.in-Some.place c.set.new.self) ≡ map (with_name (with_part c.args.part) c.args.name.now) (subs_of c.self.inside.subs.items)
changed c =
    let items = c.self.inside.subs.items in
    let place = c.in-Some.place in
    let name = c.args.name.now in
    let view : subs_of items ≡ c.args.self.now = c.self.view_is in
    let at : position (is_named name) (subs_of items) ≡ Some place =
    ap (λ (ss : List Subscription). position (is_named name) ss) view ∙ sym c.place_of.ensures ∙ c.in-Some.is in
    changed_at (with_part c.args.part) name items place c.index_mut.result.now c.set.new.self c.self.invariant at (c.set.ensures ∙ ap (λ (d : DurableSub). with_part c.args.part (sub_of d)) c.index_mut.ensures.value)

pub invariant_of-self : goal.invariant_of-self
invariant_of-self c =
    let apart : AreNamedApart (map (with_name (with_part c.args.part) c.args.name.now) (subs_of c.self.inside.subs.items)) =
    still_apart (with_part c.args.part) c.args.name.now (subs_of c.self.inside.subs.items) (part_keeps_name c.args.part) c.self.invariant in
    rw (changed c) apart

pub returns-in-Some : goal.returns-in-Some
returns-in-Some c =
    let view : subs_of c.self.inside.subs.items ≡ c.args.self.now = c.self.view_is in
    changed c ∙ ap (λ (ss : List Subscription). map (with_name (with_part c.args.part) c.args.name.now) ss) view

pub returns-in_default : goal.returns-in_default
returns-in_default c =
    sym (nothing_changed (with_part c.args.part) c.args.name.now c.args.self.now (sym c.place_of.ensures ∙ c.in_default.is))
