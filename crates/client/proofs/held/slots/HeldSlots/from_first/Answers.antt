use Rattle.std.proofs.Common.{List, Option, ap}
use Rattle.std.proofs.lemmas.List.{take_rest}
use Rattle.geo_base.specs.declared.client.Held.{Held}
use Rattle.client.specs.HeldSlots.{held_in}
use Rattle.client.proofs.SlotLists.{all_from_first}
use Rattle.client.proofs.held.slots.HeldSlots.from_first.Goals as goal

pub returns : goal.returns
returns c =
    rw (take_rest c.deref.result.now c.self.inside.front, c.deref.ensures.value, c.self.invariant.front, all_from_first c.self.inside.slots.items)
    (ap (λ (slots : List (Option Held)). held_in slots) c.self.view_is)
