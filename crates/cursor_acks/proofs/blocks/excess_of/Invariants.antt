use Rattle.std.proofs.Common.{◌≡◌, ◌+◌, drop}
use Rattle.cursor_acks.specs.Blocks.{excess}
use Rattle.cursor_acks.proofs.blocks.excess_of.Given as goal

abbrev pub invariant-loop-block : goal.invariant-loop-block
invariant-loop-block l = l.sum + excess (drop l.block-index l.blocks) ≡ excess l.blocks
