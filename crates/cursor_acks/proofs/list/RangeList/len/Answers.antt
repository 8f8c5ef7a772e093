use Rattle.std.proofs.Common.{◌≡◌, ◌+◌, ◌<◌, suc, [], get_or, length, ap, sym, arith}
use Rattle.cursor_acks.specs.Blocks.{count_before, joined}
use Rattle.cursor_acks.proofs.Found.{count_all, count_zero}
use Rattle.cursor_acks.proofs.Joined.{block_within, next_block}
use Rattle.cursor_acks.proofs.list.RangeList.len.Goals as goal

pub loop-block-init : goal.loop-block-init
loop-block-init c = sym (count_zero c.args.self.now.blocks)

pub overflow_add-sum : goal.overflow_add-sum
overflow_add-sum c =
    let bs = c.args.self.now.blocks in
    let k = c.loop-block.block in
    let lt : k < length bs = omega (arith, c.loop-block-test.true, c.block_count-block-end.ensures.count) in
    omega (arith, c.loop-block.invariant, block_within bs k (length (get_or bs k [])) lt (omega arith), ap length c.block.ensures.ranges, ap length c.block_count-block-end.ensures.joined, c.requires.few)

pub loop-block-preserved : goal.loop-block-preserved
loop-block-preserved c =
    let bs = c.args.self.now.blocks in
    let k = c.loop-block.block in
    let lt : k < length bs = omega (arith, c.loop-block-test.true, c.block_count-block-end.ensures.count) in
    let next : k + 1 ≡ suc k = omega arith in
    omega (arith, c.loop-block.invariant, next_block bs k lt, ap (λ n. count_before bs n) next, ap length c.block.ensures.ranges)

pub returns : goal.returns
returns c =
    let bs = c.args.self.now.blocks in
    let all : c.loop-block.block ≡ length bs = omega (arith, c.loop-block-test.false, c.loop-block.auto.block-end, c.block_count-block-end.ensures.count) in
    omega (arith, c.loop-block.invariant, ap (λ n. count_before bs n) all, count_all bs, ap length c.block_count-block-end.ensures.joined)
