use Rattle.std.proofs.Common.{◌≡◌, ◌+◌, ◌-◌, arith, ap, set}
use Rattle.std.proofs.lemmas.List.{length-set}
use Rattle.geo_base.specs.Ascending.{IsHere}
use Rattle.geo_base.proofs.Ascending.{ascending_set}
use Rattle.dispatcher.specs.declared.slot.Slot.{Slot}
use Rattle.dispatcher.specs.Slots.{emptiness, empties, slot_index}
use Rattle.dispatcher.specs.Tables.{UnackedIndexes}
use Rattle.dispatcher.proofs.Slots.{empties_set, empty_within, length_outs}
use Rattle.dispatcher.proofs.unacked.UnackedTable.put.Goals as goal

pub overflow_sub-self : goal.overflow_sub-self
overflow_sub-self c =
    let xs = c.self.inside.slots.items in
    let here : IsHere Slot slot_index xs c.args.slot.index c.args.at = rw (ap (λ (t : UnackedIndexes). t.slots) c.self.view_is) c.requires in
    omega (arith, empty_within xs c.args.at c.index.result.now here.within, c.emptiness.ensures, ap (λ (s : Slot). emptiness s.client) c.index.ensures, c.self.invariant.counted)

pub overflow_add-self : goal.overflow_add-self
overflow_add-self c =
    let xs = c.self.inside.slots.items in
    let here : IsHere Slot slot_index xs c.args.slot.index c.args.at = rw (ap (λ (t : UnackedIndexes). t.slots) c.self.view_is) c.requires in
    omega (
      arith,
      empty_within xs c.args.at c.index.result.now here.within,
      empties_set xs c.args.at c.args.slot c.index.result.now here.within,
      c.emptiness.ensures,
      c.emptiness-2.ensures,
      ap (λ (s : Slot). emptiness s.client) c.index.ensures,
      c.self.invariant.counted,
      length_outs (set xs c.args.at c.args.slot),
      length-set xs c.args.at c.args.slot,
      c.self.inside.slots.ok.0,
    )

pub invariant_of-self : goal.invariant_of-self
invariant_of-self c =
    let xs = c.self.inside.slots.items in
    let here : IsHere Slot slot_index xs c.args.slot.index c.args.at = rw (ap (λ (t : UnackedIndexes). t.slots) c.self.view_is) c.requires in
    record {
      ascending = ascending_set slot_index xs c.args.slot c.args.at c.self.invariant.ascending here;
      counted = omega (
        arith,
        empty_within xs c.args.at c.index.result.now here.within,
        empties_set xs c.args.at c.args.slot c.index.result.now here.within,
        c.emptiness.ensures,
        c.emptiness-2.ensures,
        ap (λ (s : Slot). emptiness s.client) c.index.ensures,
        c.self.invariant.counted,
      );
    }

pub returns-clause-empty : goal.returns-clause-empty
returns-clause-empty c =
    let xs = c.self.inside.slots.items in
    let view = ap (λ (t : UnackedIndexes). t.slots) c.self.view_is in
    let here : IsHere Slot slot_index xs c.args.slot.index c.args.at = rw view c.requires in
    let counted : c.self.inside.empty - c.emptiness.result + c.emptiness-2.result ≡ empties (set xs c.args.at c.args.slot) = omega (
      arith,
      empty_within xs c.args.at c.index.result.now here.within,
      empties_set xs c.args.at c.args.slot c.index.result.now here.within,
      c.emptiness.ensures,
      c.emptiness-2.ensures,
      ap (λ (s : Slot). emptiness s.client) c.index.ensures,
      c.self.invariant.counted,
    ) in
    rw (← view) counted
