use Rattle.std.proofs.Common.{◌≡◌, ◌∙◌, [], get_or, length, ap, sym, arith}
use Rattle.std.proofs.lemmas.List.{get_or_default}
use Rattle.cursor_acks.specs.declared.range.IndexRange.{IndexRange}
use Rattle.cursor_acks.specs.Blocks.{IsRange, flat, joined, no_range}
use Rattle.cursor_acks.proofs.Found.{found_end, range_at, range_within}
use Rattle.cursor_acks.proofs.list.RangeList.get.Goals as goal

pub returns-then-at-ranges-clause-some : goal.returns-then-at-ranges-clause-some
returns-then-at-ranges-clause-some c =
    let bs = c.args.self.now.blocks in
    let at = c.args.at in
    let ranges = c.block-ranges.result.now in
    let size : length ranges ≡ length (get_or bs at.block []) = ap length c.block-ranges.ensures.ranges in
    let here : IsRange bs at = record { block = c.requires.slot.block; offset = omega (arith, size, c.if-at-ranges.true) } in
    let r : IndexRange = get_or ranges at.offset no_range in
    let is : r ≡ get_or (joined bs) (flat bs at) r =
    ap (λ xs. get_or xs at.offset no_range) c.block-ranges.ensures.ranges ∙ (sym (range_at bs at no_range here) ∙ get_or_default (joined bs) (flat bs at) no_range r (range_within bs at here)) in
    rw c.block-ranges.ensures.joined (here, (range_within bs at here, is))

pub returns-clause-none : goal.returns-clause-none
returns-clause-none c =
    let bs = c.args.self.now.blocks in
    let size : length c.block-ranges.result.now ≡ length (get_or bs c.args.at.block []) = ap length c.block-ranges.ensures.ranges in
    rw c.block-ranges.ensures.joined (found_end bs c.args.at c.requires (omega (arith, size, c.if-at-ranges.false)))
