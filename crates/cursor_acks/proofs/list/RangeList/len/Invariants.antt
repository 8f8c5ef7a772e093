use Rattle.std.proofs.Common.{◌≡◌}
use Rattle.cursor_acks.specs.Blocks.{count_before}
use Rattle.cursor_acks.proofs.list.RangeList.len.Given as goal

abbrev pub invariant-loop-block : goal.invariant-loop-block
invariant-loop-block l = l.sum ≡ count_before l.self.blocks l.block
