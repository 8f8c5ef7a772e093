use Rattle.std.proofs.Common.{◌≡◌, ◌≤◌, length, take}
use Rattle.std.specs.Prelude.{None}
use Rattle.loss_laws.specs.Lost.{last_update}
use Rattle.world_measures.proofs.told.last_update.Given as goal

-- none of the entries from the index on is one
abbrev pub invariant-loop-index : goal.invariant-loop-index
invariant-loop-index l = record {
  within : l.index ≤ length l.store.entries;
  before : last_update l.source l.name None (take l.index l.store.entries) ≡ last_update l.source l.name None l.store.entries;
}

abbrev pub decreases-loop-index : goal.decreases-loop-index
decreases-loop-index l = l.index
