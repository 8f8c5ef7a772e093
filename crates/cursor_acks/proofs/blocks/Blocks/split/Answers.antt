use Rattle.std.proofs.Common.{◌≡◌, ◌<◌, ◌∙◌, List, [], get_or, length, ap, arith}
use Rattle.std.proofs.lemmas.List.{get_or_read}
use Rattle.cursor_acks.specs.declared.range.IndexRange.{IndexRange}
use Rattle.cursor_acks.specs.Blocks.{BlockList}
use Rattle.cursor_acks.proofs.Counted.{counted_split}
use Rattle.cursor_acks.proofs.Joined.{excess_at}
use Rattle.cursor_acks.proofs.blocks.Blocks.split.Goals as goal

pub overflow_sub-self : goal.overflow_sub-self
overflow_sub-self c =
    let xs : List (List IndexRange) = c.self.inside.items.items in
    let view : xs ≡ c.args.self.now.list = ap (λ (b : BlockList). b.list) c.self.view_is in
    let lt : c.args.block < length xs = omega (arith, c.requires.block, ap length view) in
    let old : get_or xs c.args.block [] ≡ get_or c.args.self.now.list c.args.block [] = ap (λ (ys : List (List IndexRange)). get_or ys c.args.block []) view in
    omega (arith, c.self.invariant.counted, excess_at xs c.args.block lt, ap length old, c.requires.full)

pub invariant_of-self : goal.invariant_of-self
invariant_of-self c =
    let xs : List (List IndexRange) = c.self.inside.items.items in
    let k = c.args.block in
    let e = c.index_mut.result.now in
    let view : xs ≡ c.args.self.now.list = ap (λ (b : BlockList). b.list) c.self.view_is in
    let lt : k < length xs = omega (arith, c.requires.block, ap length view) in
    let there : e ≡ get_or xs k [] = get_or_read xs k e lt c.index_mut.ensures.value [] in
    let old : get_or xs k [] ≡ get_or c.args.self.now.list k [] = ap (λ (ys : List (List IndexRange)). get_or ys k []) view in
    rw c.in-Ok.ensures.items
    (counted_split xs c.self.inside.over k e c.give_half.new.lower c.give_half.new.self c.self.invariant lt c.index_mut.ensures.value (ap length (there ∙ old) ∙ c.requires.full) c.give_half.ensures.lower c.give_half.ensures.upper)
