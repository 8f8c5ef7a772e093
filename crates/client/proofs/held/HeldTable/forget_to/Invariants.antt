use Rattle.std.proofs.Common.{◌≡◌, not, length}
use Rattle.std.specs.List.{filter}
use Rattle.geo_base.specs.declared.client.Held.{Held}
use Rattle.geo_base.specs.Position.{position_le}
use Rattle.client.specs.HeldSlots.{held_in}
use Rattle.client.proofs.held.HeldTable.forget_to.Given as goal

-- what came later is kept
abbrev pub invariant-loop-slot : goal.invariant-loop-slot
invariant-loop-slot l =
    filter (λ (h : Held). not (position_le h.position l.position)) (held_in l.self-inside.slots)
    ≡ filter (λ (h : Held). not (position_le h.position l.position)) (held_in l.initial.self-inside.slots)

abbrev pub decreases-loop-slot : goal.decreases-loop-slot
decreases-loop-slot l = length (held_in l.self-inside.slots)
