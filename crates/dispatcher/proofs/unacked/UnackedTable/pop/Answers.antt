use Rattle.std.proofs.Common.{◌<◌, arith, ap, length}
use Rattle.dispatcher.specs.declared.slot.Slot.{Slot}
use Rattle.dispatcher.specs.Slots.{emptiness}
use Rattle.dispatcher.specs.Tables.{UnackedIndexes}
use Rattle.dispatcher.proofs.Slots.{empties_rest, empty_within, rest_ascends}
use Rattle.dispatcher.proofs.unacked.UnackedTable.pop.Goals as goal

pub overflow_sub-self : goal.overflow_sub-self
overflow_sub-self c =
    let xs = c.self.inside.slots.items in
    let within : 0 < length xs = rw (ap (λ (t : UnackedIndexes). t.slots) c.self.view_is) c.requires in
    omega (arith, empty_within xs 0 c.index.result.now within, c.emptiness.ensures, ap (λ (s : Slot). emptiness s.client) c.index.ensures, c.self.invariant.counted)

pub invariant_of-self : goal.invariant_of-self
invariant_of-self c =
    let xs = c.self.inside.slots.items in
    let within : 0 < length xs = rw (ap (λ (t : UnackedIndexes). t.slots) c.self.view_is) c.requires in
    rw c.pop_front.ensures.rest (record {
      ascending = rest_ascends xs c.self.invariant.ascending;
      counted = omega (arith, empties_rest xs c.index.result.now within, c.emptiness.ensures, ap (λ (s : Slot). emptiness s.client) c.index.ensures, c.self.invariant.counted);
    })
