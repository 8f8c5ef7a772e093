use Rattle.std.proofs.Common.{◌≡◌, ◌+◌, ◌<◌, ◌≤◌, ◌∙◌, List, [], get_or, length, ap, arith}
use Rattle.std.proofs.lemmas.List.{get_or_read}
use Rattle.cursor_acks.specs.declared.range.IndexRange.{IndexRange}
use Rattle.cursor_acks.specs.Blocks.{BlockList}
use Rattle.cursor_acks.proofs.Counted.{counted_set}
use Rattle.cursor_acks.proofs.Parts.{insert_length}
use Rattle.cursor_acks.proofs.blocks.Blocks.insert.Goals as goal

pub invariant_of-self : goal.invariant_of-self
invariant_of-self c =
    let xs : List (List IndexRange) = c.self.inside.items.items in
    let k = c.args.block in
    let e = c.index_mut.result.now in
    let view : xs ≡ c.args.self.now.list = ap (λ (b : BlockList). b.list) c.self.view_is in
    let lt : k < length xs = omega (arith, c.requires.block, ap length view) in
    let there : e ≡ get_or xs k [] = get_or_read xs k e lt c.index_mut.ensures.value [] in
    let here : c.index.result.now ≡ get_or xs k [] = get_or_read xs k c.index.result.now lt c.index.ensures [] in
    let old : get_or xs k [] ≡ get_or c.args.self.now.list k [] = ap (λ (ys : List (List IndexRange)). get_or ys k []) view in
    let within : c.args.offset ≤ length e = omega (arith, c.requires.offset, ap length old, ap length there) in
    let size : length c.insert.new.self ≡ length e + 1 = ap length c.insert.ensures ∙ insert_length e c.args.offset c.args.range within in
    counted_set xs c.self.inside.over _ k e c.insert.new.self c.self.invariant lt c.index_mut.ensures.value (omega (arith, size))
    (omega (arith, size, c.above_half.ensures, c.above_half-2.ensures, c.len-len.ensures.len, ap length here, ap length there))
