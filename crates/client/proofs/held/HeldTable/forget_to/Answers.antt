use Rattle.std.proofs.Common.{not, List, ◌∙◌, ap}
use Rattle.std.specs.List.{filter}
use Rattle.geo_base.specs.declared.client.Held.{Held}
use Rattle.geo_base.specs.Position.{position_le}
use Rattle.client.proofs.HeldMessages.{fewer_left, updated_indexes, all_later}
use Rattle.client.proofs.held.HeldTable.forget_to.Goals as goal

pub loop-slot-smaller : goal.loop-slot-smaller
loop-slot-smaller c = rw c.empty.ensures (fewer_left c.loop-slot.self-inside.slots c.args.position c.in-Some.slot c.in-Some.ensures.some)

pub loop-slot-preserved : goal.loop-slot-preserved
loop-slot-preserved c = rw (c.empty.ensures, updated_indexes c.loop-slot.self-inside.slots c.args.position c.in-Some.slot c.in-Some.ensures.some) c.loop-slot.invariant

pub returns : goal.returns
returns c = c.trim.ensures ∙ (all_later c.loop-slot.self-inside.slots c.args.position c.in_default.ensures.none ∙ (c.loop-slot.invariant
    ∙ ap (λ (hs : List Held). filter (λ (h : Held). not (position_le h.position c.args.position)) hs) c.self.view_is))
