use Rattle.std.proofs.Common.{◌≡◌, ◌≤◌, drop}
use Rattle.std.specs.Option.{option_copied}
use Rattle.loss_laws.specs.Lost.{untold_from}
use Rattle.world_measures.proofs.told.untold.Given as goal

-- the count so far and the entries from the index on make the whole
abbrev pub invariant-loop-index : goal.invariant-loop-index
invariant-loop-index l = record {
  so_far : untold_from (option_copied l.told) l.source l.store.ledgers l.mark l.count (drop l.index l.store.entries)
      ≡ untold_from (option_copied l.told) l.source l.store.ledgers l.mark 0 l.store.entries;
  few : l.count ≤ l.index;
}
