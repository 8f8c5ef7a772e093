use Rattle.std.proofs.Common.{◌≡◌, ◌≤◌, length, map, take}
use Rattle.geo_base.specs.declared.client.Held.{Held}
use Rattle.client.specs.HeldSlots.{held_in}
use Rattle.client.proofs.held.HeldTable.positions.Given as goal

-- the positions are those of the slots so far
abbrev pub invariant-loop-slot : goal.invariant-loop-slot
invariant-loop-slot l = record {
  few : length l.positions ≤ l.most;
  same : l.positions ≡ map (λ (h : Held). h.position) (held_in (take l.slot-index l.slot-items));
}
