use Rattle.std.proofs.Common.{sym, ◌∙◌}
use Rattle.client.proofs.SlotIndexes.{none_held, none_up_to}
use Rattle.client.proofs.held.slots.indexed_up_to.Goals as goal

pub returns-in_default-clause-none : goal.returns-in_default-clause-none
returns-in_default-clause-none c = none_held c.args.slots.now c.args.positions.now c.args.position c.requires c.in_default.ensures.none

pub returns-else-is_at_most-clause-none : goal.returns-else-is_at_most-clause-none
returns-else-is_at_most-clause-none c =
    none_up_to c.args.slots.now c.args.positions.now c.args.position c.in-Some.key c.requires c.in-Some.ensures.least
    (sym c.is_at_most.ensures ∙ c.if-is_at_most.false)
