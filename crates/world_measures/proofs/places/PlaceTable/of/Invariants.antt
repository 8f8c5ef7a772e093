use Rattle.std.proofs.Common.{◌≤◌, length}
use Rattle.world_measures.proofs.Placing.{TellsFrom}
use Rattle.world_measures.proofs.places.PlaceTable.of.Given as goal

-- the entries from the index on are told
abbrev pub invariant-loop-index : goal.invariant-loop-index
invariant-loop-index l = record { within : l.index ≤ length l.store.entries; told : TellsFrom l.first.entries l.index l.store.entries }

abbrev pub decreases-loop-index : goal.decreases-loop-index
decreases-loop-index l = l.index
