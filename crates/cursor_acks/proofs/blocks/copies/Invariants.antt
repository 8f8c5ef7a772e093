use Rattle.std.proofs.Common.{◌≡◌, take}
use Rattle.cursor_acks.proofs.blocks.copies.Given as goal

abbrev pub invariant-loop-block : goal.invariant-loop-block
invariant-loop-block l = l.items.items ≡ take l.block-index l.blocks
