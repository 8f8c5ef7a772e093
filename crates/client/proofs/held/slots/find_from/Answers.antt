use Rattle.std.proofs.Common.{sym, ◌∙◌}
use Rattle.client.proofs.SlotIndexes.{none_of_next}
use Rattle.client.proofs.SlotTails.{none_of_all}
use Rattle.client.proofs.held.slots.find_from.Goals as goal

pub returns-then-has-clause-some : goal.returns-then-has-clause-some
returns-then-has-clause-some c = record {
  within = c.loop-slot-test.true;
  is_one = sym c.has.ensures ∙ c.if-has.true;
  none_before = c.loop-slot.invariant;
}

pub loop-slot-preserved : goal.loop-slot-preserved
loop-slot-preserved c = none_of_next c.args.slots.now c.args.ident.now c.loop-slot.slot c.loop-slot.invariant (sym c.has.ensures ∙ c.if-has.false)

pub returns-clause-none : goal.returns-clause-none
returns-clause-none c = none_of_all c.args.slots.now c.args.ident.now c.loop-slot.slot c.loop-slot.invariant c.loop-slot-test.false
