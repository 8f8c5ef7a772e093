use Rattle.std.proofs.Common.{sym, ◌∙◌}
use Rattle.client.proofs.SlotTails.{none_came_next, none_came_all}
use Rattle.client.proofs.held.slots.up_to_from.Goals as goal

pub loop-slot-preserved : goal.loop-slot-preserved
loop-slot-preserved c = none_came_next c.args.slots.now c.args.position c.loop-slot.slot c.loop-slot.invariant (sym c.came_up_to.ensures ∙ c.if-came_up_to.false)

pub returns-clause-none : goal.returns-clause-none
returns-clause-none c = none_came_all c.args.slots.now c.args.position c.loop-slot.slot c.loop-slot.invariant c.loop-slot-test.false
