use Rattle.std.proofs.Common.{◌≡◌, ◌-◌, ◌∙◌, List, drop, take, rules, ap, sym, arith}
use Rattle.cursor_acks.specs.declared.range.IndexRange.{IndexRange}
use Rattle.cursor_acks.specs.Blocks.{BlockList, excess}
use Rattle.cursor_acks.proofs.Counted.{counted_dropped}
use Rattle.cursor_acks.proofs.Joined.{excess_drop}
use Rattle.cursor_acks.proofs.blocks.Blocks.drop_blocks.Goals as goal

pub excess_of-requires : goal.excess_of-requires
excess_of-requires c =
    let xs : List (List IndexRange) = c.self.inside.items.items in
    let view : xs ≡ c.args.self.now.list = ap (λ (b : BlockList). b.list) c.self.view_is in
    let over : c.over-over.result ≡ excess c.deref.result.now = c.over-over.ensures ∙ ap excess (sym view ∙ sym c.deref.ensures.value) in
    omega (arith, over, excess_drop c.deref.result.now c.args.blocks, c.over-over.type_inv)

pub overflow_sub-self : goal.overflow_sub-self
overflow_sub-self c =
    let xs : List (List IndexRange) = c.self.inside.items.items in
    let view : xs ≡ c.args.self.now.list = ap (λ (b : BlockList). b.list) c.self.view_is in
    let over : c.over-over.result ≡ excess c.deref.result.now = c.over-over.ensures ∙ ap excess (sym view ∙ sym c.deref.ensures.value) in
    omega (arith, over, excess_drop c.deref.result.now c.args.blocks, c.excess_of.ensures)

pub invariant_of-self : goal.invariant_of-self
invariant_of-self c =
    let xs : List (List IndexRange) = c.self.inside.items.items in
    let view : xs ≡ c.args.self.now.list = ap (λ (b : BlockList). b.list) c.self.view_is in
    let over : c.over-over.result ≡ excess xs = c.over-over.ensures ∙ ap excess (sym view) in
    let gone : c.excess_of.result ≡ excess (take c.args.blocks xs) = c.excess_of.ensures ∙ ap (λ (ys : List (List IndexRange)). excess (take c.args.blocks ys)) c.deref.ensures.value in
    let left : c.drop-drain.new.self.0.items ≡ drop c.args.blocks xs = search rules in
    rw left (counted_dropped xs c.over-over.result c.args.blocks c.excess_of.result c.self.invariant.some over gone)
