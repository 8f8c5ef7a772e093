use Rattle.std.proofs.Common.{length, ap, arith}
use Rattle.std.proofs.lemmas.List.{length-drop}
use Rattle.cursor_acks.proofs.block.RangeBlock.give_half.Goals as goal

pub invariant_of-self : goal.invariant_of-self
invariant_of-self c = (omega (arith, c.take_half.ensures.capacity, c.self.invariant.0), omega (arith, ap length c.take_half.ensures.upper, length-drop 32 c.self.inside.items.items, c.self.invariant.1))
