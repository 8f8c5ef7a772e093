use Rattle.cursor_acks.proofs.Counted.{counted_pushed}
use Rattle.cursor_acks.proofs.blocks.Blocks.push.Goals as goal

pub invariant_of-self : goal.invariant_of-self
invariant_of-self c = rw c.push_reserved.ensures.items (counted_pushed c.self.inside.items.items c.self.inside.over c.args.block c.self.invariant c.requires.some c.requires.half)
