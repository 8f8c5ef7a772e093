use Rattle.std.proofs.Common.{◌≡◌, List, [], length}
use Rattle.std.specs.List.{All}
use Rattle.cursor_acks.specs.declared.range.IndexRange.{IndexRange}
use Rattle.cursor_acks.proofs.list.free_blocks.Given as goal

abbrev pub invariant-loop-block : goal.invariant-loop-block
invariant-loop-block l = (length l.blocks.items ≡ l._block) × All (λ (b : List IndexRange). b ≡ []) l.blocks.items
