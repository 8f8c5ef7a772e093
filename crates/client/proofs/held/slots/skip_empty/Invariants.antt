use Rattle.std.proofs.Common.{◌≡◌, ◌+◌, ◌-◌, ◌≤◌, length, drop}
use Rattle.client.specs.HeldSlots.{empty_before}
use Rattle.client.proofs.held.slots.skip_empty.Given as goal

-- no slot before the place has a message
abbrev pub invariant-loop-at : goal.invariant-loop-at
invariant-loop-at l = record {
  within : l.at ≤ length l.slots;
  empty : l.from + empty_before (drop l.from l.slots) ≡ l.at + empty_before (drop l.at l.slots);
}

abbrev pub decreases-loop-at : goal.decreases-loop-at
decreases-loop-at l = length l.slots - l.at
