use Rattle.std.proofs.Common.{◌<◌, length}
use Rattle.client.proofs.HeldSlots.{front_in, one_at_least, one_less, stood}
use Rattle.client.proofs.held.slots.HeldSlots.empty.Goals as goal

pub overflow_sub-self : goal.overflow_sub-self
overflow_sub-self c =
    let within : c.args.slot < length c.self.inside.slots.items = rw c.self.view_is c.requires in
    let is = stood c.self.inside.slots.items c.args.slot _ _ c.in-Some.held within c.index_mut.ensures.value c.take.ensures.value c.in-Some.is in
    one_at_least c.self.inside.slots.items c.args.slot c.self.inside.count c.in-Some.held c.self.invariant.count is

pub skip_empty-self-inside-requires : goal.skip_empty-self-inside-requires
skip_empty-self-inside-requires c = rw c.as_slice.ensures.value (front_in c.self.inside.slots.items c.args.slot c.self.inside.front c.take.new.self c.self.invariant.front)

pub invariant_of-self : goal.invariant_of-self
invariant_of-self c =
    let within : c.args.slot < length c.self.inside.slots.items = rw c.self.view_is c.requires in
    let is = stood c.self.inside.slots.items c.args.slot _ _ c.in-Some.held within c.index_mut.ensures.value c.take.ensures.value c.in-Some.is in
    one_less c.self.inside.slots.items c.self.inside.count c.self.inside.front c.self.inside.indexed c.self.inside.idents c.self.inside.positions c.remove.new.self c.remove-in-Some.new.self c.self.invariant
    c.args.slot c.skip_empty-self-inside.result c.take.new.self c.in-Some.held c.key_of.result c.key_of-in-Some.result c.take.ensures.after within is
    (rw c.as_slice.ensures.value at c.skip_empty-self-inside.ensures) (rw c.stream_sum.ensures at c.key_of.ensures) c.key_of-in-Some.ensures c.remove.ensures c.remove-in-Some.ensures
