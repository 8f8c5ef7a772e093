use Rattle.std.proofs.Common.{◌≡◌, map, take}
use Rattle.tiered_storage.specs.Tiered.{part_length}
use Rattle.tiered_storage.proofs.cut.lengths_of.Given as goal

abbrev pub invariant-loop-part : goal.invariant-loop-part
invariant-loop-part l = l.lengths.items ≡ map part_length (take l.part-index l.parts)
