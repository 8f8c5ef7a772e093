use Rattle.std.proofs.Common.{◌≡◌, take}
use Rattle.tiered_storage.specs.Tiered.{all_here}
use Rattle.tiered_storage.proofs.cut.parts_of.Given as goal

abbrev pub invariant-loop-ledger : goal.invariant-loop-ledger
invariant-loop-ledger g l = l.parts.items ≡ take l.ledger (all_here (g.S.EntryStore.ledgers l.store) (g.S.EntryStore.entries l.store))
