use Rattle.std.proofs.Common.{◌≡◌, ◌<◌, ◌∙◌, List, [], get_or, length, ap, arith}
use Rattle.std.proofs.lemmas.List.{get_or_read, length-set}
use Rattle.cursor_acks.specs.declared.range.IndexRange.{IndexRange}
use Rattle.cursor_acks.specs.Blocks.{BlockList}
use Rattle.cursor_acks.proofs.Counted.{counted_set}
use Rattle.cursor_acks.proofs.blocks.Blocks.set.Goals as goal

pub invariant_of-self : goal.invariant_of-self
invariant_of-self c =
    let xs : List (List IndexRange) = c.self.inside.items.items in
    let k = c.args.block in
    let e = c.index_mut.result.now in
    let view : xs ≡ c.args.self.now.list = ap (λ (b : BlockList). b.list) c.self.view_is in
    let lt : k < length xs = omega (arith, c.requires.block, ap length view) in
    let there : e ≡ get_or xs k [] = get_or_read xs k e lt c.index_mut.ensures.value [] in
    let size : length c.set.new.self ≡ length e = ap length c.set.ensures ∙ length-set e c.args.offset c.args.range in
    counted_set xs c.self.inside.over c.self.inside.over k e c.set.new.self c.self.invariant lt c.index_mut.ensures.value (omega (arith, size, ap length there, c.self.invariant.some k [] lt)) (omega (arith, size))
