use Rattle.std.proofs.Common.{◌≡◌, ◌<◌, ◌∙◌, [], get_or, ap, arith}
use Rattle.std.specs.Prelude.{length}
use Rattle.geo_base.specs.declared.consumer.Unacked.{Unacked}
use Rattle.dispatcher.specs.declared.slot.Slot.{Slot}
use Rattle.dispatcher.specs.Slots.{empties, out_before, outs_of}
use Rattle.dispatcher.specs.Tables.{UnackedIndexes}
use Rattle.dispatcher.proofs.Slots.{length_outs, none_before, out_at, some_before}
use Rattle.dispatcher.proofs.unacked.UnackedTable.at.Goals as goal

pub index-slot-requires : goal.index-slot-requires
index-slot-requires c =
    let xs = c.self.inside.slots.items in
    let full : empties xs ≡ 0 = c.self.invariant.counted ∙ ap (λ (t : UnackedIndexes). t.empty) c.self.view_is ∙ c.requires.full in
    omega (arith, full, c.requires.within, length_outs xs, ap (λ (t : UnackedIndexes). length t.items) c.self.view_is, c.self.inside.slots.ok.0)

pub unreachable-requires : goal.unreachable-requires
unreachable-requires c =
    let xs = c.self.inside.slots.items in
    let s = c.index-slot.result.now in
    let some : Unacked = record { index = 0; client = 0 } in
    let full : empties xs ≡ 0 = c.self.invariant.counted ∙ ap (λ (t : UnackedIndexes). t.empty) c.self.view_is ∙ c.requires.full in
    let within : c.args.place < length xs = omega (arith, full, c.requires.within, length_outs xs, ap (λ (t : UnackedIndexes). length t.items) c.self.view_is) in
    none_before s.client s.index (get_or (outs_of xs) c.args.place some)
    (ap (λ (s : Slot). out_before s.client s.index []) c.index-slot.ensures ∙ out_at xs c.args.place s some full within) c.in-None.is

pub returns : goal.returns
returns c = λ d.
    let xs = c.self.inside.slots.items in
    let s = c.index-slot.result.now in
    let full : empties xs ≡ 0 = c.self.invariant.counted ∙ ap (λ (t : UnackedIndexes). t.empty) c.self.view_is ∙ c.requires.full in
    let within : c.args.place < length xs = omega (arith, full, c.requires.within, length_outs xs, ap (λ (t : UnackedIndexes). length t.items) c.self.view_is) in
    some_before s.client s.index c.in-Some.client (get_or (outs_of xs) c.args.place d)
    (ap (λ (s : Slot). out_before s.client s.index []) c.index-slot.ensures ∙ out_at xs c.args.place s d full within) c.in-Some.is
    ∙ ap (λ (t : UnackedIndexes). get_or t.items c.args.place d) c.self.view_is
