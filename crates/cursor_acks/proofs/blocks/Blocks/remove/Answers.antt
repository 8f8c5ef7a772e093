use Rattle.std.proofs.Common.{◌≡◌, ◌+◌, ◌<◌, ◌∙◌, List, [], get_or, length, ap, arith}
use Rattle.std.proofs.lemmas.List.{get_or_read}
use Rattle.cursor_acks.specs.declared.range.IndexRange.{IndexRange}
use Rattle.cursor_acks.specs.Blocks.{BlockList, excess}
use Rattle.cursor_acks.proofs.Counted.{counted_gone, counted_set}
use Rattle.cursor_acks.proofs.Joined.{excess_at, excess_set}
use Rattle.cursor_acks.proofs.Parts.{gone_excess, gone_joined, remove_length}
use Rattle.cursor_acks.proofs.blocks.Blocks.remove.Goals as goal

pub invariant_of-self : goal.invariant_of-self
invariant_of-self c =
    let xs : List (List IndexRange) = c.self.inside.items.items in
    let k = c.args.block in
    let view : xs ≡ c.args.self.now.list = ap (λ (b : BlockList). b.list) c.self.view_is in
    let lt : k < length xs = omega (arith, c.requires.block, ap length view) in
    rw c.remove.ensures.items (counted_gone xs c.self.inside.over k c.index.result.now c.self.invariant lt c.index.ensures (omega (arith, c.len-len.ensures.len, c.if-len-eq1.true)))

pub returns-then-len-eq1-clause-ranges : goal.returns-then-len-eq1-clause-ranges
returns-then-len-eq1-clause-ranges c =
    let xs : List (List IndexRange) = c.self.inside.items.items in
    let k = c.args.block in
    let view : xs ≡ c.args.self.now.list = ap (λ (b : BlockList). b.list) c.self.view_is in
    let lt : k < length xs = omega (arith, c.requires.block, ap length view) in
    let here : c.index.result.now ≡ get_or xs k [] = get_or_read xs k c.index.result.now lt c.index.ensures [] in
    let old : get_or xs k [] ≡ get_or c.args.self.now.list k [] = ap (λ (ys : List (List IndexRange)). get_or ys k []) view in
    let within : c.args.offset < length (get_or xs k []) = omega (arith, c.requires.offset, ap length old) in
    let one : length (get_or xs k []) ≡ 1 = omega (arith, ap length here, c.len-len.ensures.len, c.if-len-eq1.true) in
    rw (c.remove.ensures.items, ← view) (gone_joined xs k c.args.offset lt one within)

pub returns-then-len-eq1-clause-excess : goal.returns-then-len-eq1-clause-excess
returns-then-len-eq1-clause-excess c =
    let xs : List (List IndexRange) = c.self.inside.items.items in
    let k = c.args.block in
    let view : xs ≡ c.args.self.now.list = ap (λ (b : BlockList). b.list) c.self.view_is in
    let lt : k < length xs = omega (arith, c.requires.block, ap length view) in
    let here : c.index.result.now ≡ get_or xs k [] = get_or_read xs k c.index.result.now lt c.index.ensures [] in
    let one : length (get_or xs k []) ≡ 1 = omega (arith, ap length here, c.len-len.ensures.len, c.if-len-eq1.true) in
    let gone : excess c.remove.new.self.items ≡ excess xs = ap excess c.remove.ensures.items ∙ gone_excess xs k lt one in
    omega (arith, gone, ap excess view)

pub overflow_sub-self : goal.overflow_sub-self
overflow_sub-self c = omega (arith, c.above_half.ensures, c.above_half-2.ensures)

pub overflow_sub-self-2 : goal.overflow_sub-self-2
overflow_sub-self-2 c =
    let xs : List (List IndexRange) = c.self.inside.items.items in
    let k = c.args.block in
    let view : xs ≡ c.args.self.now.list = ap (λ (b : BlockList). b.list) c.self.view_is in
    let lt : k < length xs = omega (arith, c.requires.block, ap length view) in
    let here : c.index.result.now ≡ get_or xs k [] = get_or_read xs k c.index.result.now lt c.index.ensures [] in
    omega (arith, c.above_half.ensures, c.above_half-2.ensures, c.self.invariant.counted, excess_at xs k lt, ap length here, c.len-len.ensures.len)

pub invariant_of-self-2 : goal.invariant_of-self-2
invariant_of-self-2 c =
    let xs : List (List IndexRange) = c.self.inside.items.items in
    let k = c.args.block in
    let view : xs ≡ c.args.self.now.list = ap (λ (b : BlockList). b.list) c.self.view_is in
    let lt : k < length xs = omega (arith, c.requires.block, ap length view) in
    let here : c.index.result.now ≡ get_or xs k [] = get_or_read xs k c.index.result.now lt c.index.ensures [] in
    let old : get_or xs k [] ≡ get_or c.args.self.now.list k [] = ap (λ (ys : List (List IndexRange)). get_or ys k []) view in
    let within : c.args.offset < length (get_or xs k []) = omega (arith, c.requires.offset, ap length old) in
    let e = c.index_mut.result.now in
    let there : e ≡ get_or xs k [] = get_or_read xs k e lt c.index_mut.ensures.value [] in
    let size : length c.remove-2.new.self + 1 ≡ length e = omega (arith, ap length c.remove-2.ensures, remove_length e c.args.offset (omega (arith, within, ap length there))) in
    counted_set xs c.self.inside.over _ k e c.remove-2.new.self c.self.invariant lt c.index_mut.ensures.value (omega (arith, size, ap length there, ap length here, c.len-len.ensures.len, c.if-len-eq1.false, within))
    (omega (arith, size, c.above_half.ensures, c.above_half-2.ensures, c.len-len.ensures.len, ap length here, ap length there, c.self.invariant.counted, excess_at xs k lt))

pub returns-clause-excess : goal.returns-clause-excess
returns-clause-excess c =
    let xs : List (List IndexRange) = c.self.inside.items.items in
    let k = c.args.block in
    let view : xs ≡ c.args.self.now.list = ap (λ (b : BlockList). b.list) c.self.view_is in
    let lt : k < length xs = omega (arith, c.requires.block, ap length view) in
    let here : c.index.result.now ≡ get_or xs k [] = get_or_read xs k c.index.result.now lt c.index.ensures [] in
    let old : get_or xs k [] ≡ get_or c.args.self.now.list k [] = ap (λ (ys : List (List IndexRange)). get_or ys k []) view in
    let within : c.args.offset < length (get_or xs k []) = omega (arith, c.requires.offset, ap length old) in
    let e = c.index_mut.result.now in
    let there : e ≡ get_or xs k [] = get_or_read xs k e lt c.index_mut.ensures.value [] in
    let size : length c.remove-2.new.self + 1 ≡ length e = omega (arith, ap length c.remove-2.ensures, remove_length e c.args.offset (omega (arith, within, ap length there))) in
    omega (arith, excess_set xs k c.remove-2.new.self lt, size, ap length there, ap excess view)
