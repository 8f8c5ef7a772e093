use Rattle.std.proofs.Common.{arith, ap}
use Rattle.std.specs.Prelude.{length}
use Rattle.dispatcher.specs.Tables.{UnackedIndexes}
use Rattle.dispatcher.proofs.Slots.{length_outs}
use Rattle.dispatcher.proofs.unacked.UnackedTable.len.Goals as goal

pub overflow_sub-result : goal.overflow_sub-result
overflow_sub-result c = omega (arith, length_outs c.self.inside.slots.items, c.self.invariant.counted, c.len.ensures, c.self.inside.slots.ok.0)

pub returns : goal.returns
returns c =
    omega (arith, length_outs c.self.inside.slots.items, c.self.invariant.counted, c.len.ensures, c.self.inside.slots.ok.0, ap (λ (t : UnackedIndexes). length t.items) c.self.view_is)
