use Rattle.std.proofs.Common.{◌≡◌, ◌≤◌, ◌+◌, ◌-◌, length, take}
use Rattle.std.specs.Int.{div_ceil}
use Rattle.std.specs.List.{concat}
use Rattle.wire_ends.specs.Parcels.{AreParts}
use Rattle.wire_ends.proofs.parcel.parts.Given as goal

abbrev pub invariant-loop-at : goal.invariant-loop-at
invariant-loop-at l =
    (l.at ≤ length l.bytes) × (concat l.parts.items ≡ take l.at l.bytes)
    × (length l.parts.items + div_ceil (length l.bytes - l.at) l.most ≡ div_ceil (length l.bytes) l.most)
    × AreParts l.most l.parts.items

abbrev pub decreases-loop-at : goal.decreases-loop-at
decreases-loop-at l = length l.bytes - l.at
