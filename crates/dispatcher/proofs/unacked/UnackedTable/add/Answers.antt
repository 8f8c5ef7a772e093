use Rattle.std.proofs.Common.{◌≡◌, ◌+◌, ◌≤◌, ◌∙◌, List, ap, set, sym, arith}
use Rattle.std.specs.Prelude.{Some, length}
use Rattle.std.specs.List.{insert}
use Rattle.geo_base.specs.declared.consumer.Unacked.{Unacked}
use Rattle.geo_base.specs.Ascending.{IsGap}
use Rattle.geo_base.specs.Dispatcher.{with_out}
use Rattle.geo_base.proofs.Ascending.{ascending_insert, item_found, item_missed}
use Rattle.dispatcher.specs.declared.slot.Slot.{Slot}
use Rattle.dispatcher.specs.Slots.{empties, outs_of, slot_index}
use Rattle.dispatcher.specs.Tables.{UnackedIndexes}
use Rattle.dispatcher.proofs.Slots.{empties_insert, empties_set, length_with_out, more_with_out, outs_item}
use Rattle.dispatcher.proofs.unacked.UnackedTable.add.Goals as goal

pub returns-in-Ok-clause-items : goal.returns-in-Ok-clause-items
returns-in-Ok-clause-items c =
    let ss = c.args.self.now.slots in
    let slot : Slot = record { index = c.args.given.index; client = Some c.args.given.client } in
    let here = c.in-Ok.ensures.here in
    c.put.ensures.items ∙ ap (λ ts. outs_of ts) (sym (item_found slot_index ss slot slot c.in-Ok.at here.place here.within (here.same slot)))
    ∙ outs_item c.args.given.index c.args.given.client ss c.search.ensures.ascending ∙ ap (λ os. with_out os c.args.given) (sym c.search.ensures.items)

pub returns-in-Ok-clause-len : goal.returns-in-Ok-clause-len
returns-in-Ok-clause-len c =
    let items = returns-in-Ok-clause-items c in
    omega (arith, ap (λ (os : List Unacked). length os) items, length_with_out c.args.self.now.items c.args.given)

pub returns-in-Ok-insert-clause-items : goal.returns-in-Ok-insert-clause-items
returns-in-Ok-insert-clause-items c =
    let ss = c.args.self.now.slots in
    let slot : Slot = record { index = c.args.given.index; client = Some c.args.given.client } in
    let gap = c.in-Err.ensures.gap in
    let view = ap (λ (t : UnackedIndexes). insert t.slots c.in-Err.at slot) c.self.view_is in
    ap (λ ts. outs_of ts) (c.in-Ok-insert.ensures.items ∙ view ∙ sym (item_missed slot_index ss slot c.in-Err.at gap.place gap.other))
    ∙ outs_item c.args.given.index c.args.given.client ss c.search.ensures.ascending ∙ ap (λ os. with_out os c.args.given) (sym c.search.ensures.items)

pub returns-in-Ok-insert-clause-len : goal.returns-in-Ok-insert-clause-len
returns-in-Ok-insert-clause-len c =
    let items = returns-in-Ok-insert-clause-items c in
    omega (arith, ap (λ (os : List Unacked). length os) items, length_with_out c.args.self.now.items c.args.given)

pub returns-in-Ok-clause-few : goal.returns-in-Ok-clause-few
returns-in-Ok-clause-few c =
    let ss = c.args.self.now.slots in
    let slot : Slot = record { index = c.args.given.index; client = Some c.args.given.client } in
    let items = returns-in-Ok-clause-items c in
    let count : c.put.new.self.empty ≡ empties (set ss c.in-Ok.at slot) = c.put.ensures.empty in
    let fewer = empties_set ss c.in-Ok.at slot slot c.in-Ok.ensures.here.within in
    λ few.
    let old : c.args.self.now.empty ≤ 64 + length c.args.self.now.items = few in
    let new : c.put.new.self.empty ≤ 64 + length c.put.new.self.items =
    omega (arith, old, ap (λ (os : List Unacked). length os) items, more_with_out c.args.self.now.items c.args.given, count, fewer, c.search.ensures.empty) in new

pub returns-in-Ok-insert-clause-few : goal.returns-in-Ok-insert-clause-few
returns-in-Ok-insert-clause-few c =
    let items = returns-in-Ok-insert-clause-items c in
    let same = ap (λ (t : UnackedIndexes). t.empty) c.self.view_is in
    λ few.
    let old : c.args.self.now.empty ≤ 64 + length c.args.self.now.items = few in
    let new : c.self.inside.empty ≤ 64 + length (outs_of c.insert.new.self.items) =
    omega (arith, old, ap (λ (os : List Unacked). length os) items, more_with_out c.args.self.now.items c.args.given, same) in new

pub invariant_of-self : goal.invariant_of-self
invariant_of-self c =
    let xs = c.self.inside.slots.items in
    let slot : Slot = record { index = c.args.given.index; client = Some c.args.given.client } in
    let view = ap (λ (t : UnackedIndexes). t.slots) c.self.view_is in
    let gap : IsGap Slot slot_index xs c.args.given.index c.in-Err.at = rw view c.in-Err.ensures.gap in
    rw c.in-Ok-insert.ensures.items (record {
      ascending = ascending_insert slot_index xs slot c.in-Err.at c.self.invariant.ascending gap;
      counted = omega (arith, empties_insert xs c.in-Err.at slot gap.place.within, c.self.invariant.counted);
    })
