use Rattle.std.proofs.Common.{◌≡◌, ℕ, ◌-◌, ◌<◌, false, length, slice_index_or, None}
use Rattle.client.specs.HeldSlots.{is_of}
use Rattle.client.proofs.held.slots.find_from.Given as goal

-- no slot before the next one has a message of the identity
abbrev pub invariant-loop-slot : goal.invariant-loop-slot
invariant-loop-slot l = (j : ℕ) → j < l.slot → is_of l.ident (slice_index_or l.slots j None) ≡ false

abbrev pub decreases-loop-slot : goal.decreases-loop-slot
decreases-loop-slot l = length l.slots - l.slot
