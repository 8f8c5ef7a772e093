use Rattle.std.proofs.Common.{arith}
use Rattle.cursor_acks.proofs.list.RangeList.block_count.Goals as goal

pub overflow_add-result : goal.overflow_add-result
overflow_add-result c = omega (arith, c.len.ensures.few)
