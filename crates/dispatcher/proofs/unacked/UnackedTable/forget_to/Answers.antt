use Rattle.std.proofs.Common.{◌≡◌, ◌≤◌, List, length, drop, rules, arith, ap, sym, ◌∙◌}
use Rattle.std.specs.Prelude.{nat_le, not}
use Rattle.std.specs.List.{filter}
use Rattle.std.proofs.lemmas.List.{drop-drop}
use Rattle.std.proofs.lemmas.List.Sorted.{IsPartitionPoint-from_clause, IsPartitionedBy-leb}
use Rattle.geo_base.specs.declared.consumer.Unacked.{Unacked}
use Rattle.geo_base.proofs.Ascending.{rises}
use Rattle.dispatcher.specs.declared.slot.Slot.{Slot}
use Rattle.dispatcher.specs.Slots.{outs_of, slot_index}
use Rattle.dispatcher.specs.Tables.{UnackedIndexes}
use Rattle.dispatcher.proofs.Kept.{dropped_to}
use Rattle.dispatcher.proofs.Slots.{few_left, outs_behind}
use Rattle.dispatcher.proofs.unacked.UnackedTable.forget_to.Goals as goal

pub loop-place-preserved : goal.loop-place-preserved
loop-place-preserved c = record {
  rest = c.pop.ensures.slots ∙ ap (λ (ss : List Slot). drop 1 ss) c.loop-place.invariant.rest ∙ drop-drop 1 c.loop-place._place c.args.self.now.slots;
  items = c.pop.ensures.items ∙ ap (λ ss. outs_of ss) (sym c.pop.ensures.slots);
  spare = omega (arith, c.loop-place.invariant.spare, c.pop.ensures.spare);
}

pub returns-clause-items : goal.returns-clause-items
returns-clause-items c =
    let xs = c.self.inside.slots.items in
    let gone = c.partition_point-gone.result in
    let within : gone ≤ length xs = omega (arith, c.partition_point-gone.ensures.bound, c.self.inside.slots.ok.0) in
    let found = IsPartitionPoint-from_clause (λ (x : Slot). nat_le (slot_index x) c.args.index) xs gone c.partition_point-gone.ensures.partitioned (IsPartitionedBy-leb slot_index xs c.args.index (rises slot_index xs c.self.invariant.ascending)) (λ a r f k. search rules) in
    let all : c.loop-place._place ≡ gone = omega arith in
    let view = ap (λ (t : UnackedIndexes). drop gone t.slots) c.self.view_is in
    c.tidy.ensures.items
    ∙ c.loop-place.invariant.items
    ∙ ap (λ (ss : List Slot). outs_of ss) (c.loop-place.invariant.rest ∙ ap (λ n. drop n c.args.self.now.slots) all ∙ sym view ∙ sym (dropped_to slot_index c.args.index xs gone within found))
    ∙ outs_behind c.args.index xs
    ∙ ap (λ (t : UnackedIndexes). filter (λ (o : Unacked). not (nat_le o.index c.args.index)) t.items) c.self.view_is

pub returns-clause-len : goal.returns-clause-len
returns-clause-len c =
    let items = returns-clause-items c in
    omega (arith, ap (λ (os : List Unacked). length os) items, few_left (λ (o : Unacked). not (nat_le o.index c.args.index)) c.args.self.now.items)
