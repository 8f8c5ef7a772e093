use Rattle.std.proofs.Common.{◌≡◌, ℕ, ◌-◌, ◌<◌, false, length, slice_index_or, None}
use Rattle.client.specs.HeldSlots.{ident_numbers, is_of, key_of}
use Rattle.client.proofs.held.slots.find_indexed.Given as goal

-- no slot before the next one has a message of the identity
abbrev pub invariant-loop-slot : goal.invariant-loop-slot
invariant-loop-slot l = record {
  same : l.from ≡ key_of (ident_numbers l.ident) l.from.slot;
  none_before : (j : ℕ) → j < l.from.slot → is_of l.ident (slice_index_or l.slots j None) ≡ false;
}

abbrev pub decreases-loop-slot : goal.decreases-loop-slot
decreases-loop-slot l = length l.slots - l.from.slot
