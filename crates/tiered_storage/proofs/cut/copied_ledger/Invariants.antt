use Rattle.std.proofs.Common.{◌≡◌, ◌-◌, length, take}
use Rattle.tiered_storage.specs.Ledgers.{entries_in}
use Rattle.tiered_storage.proofs.cut.copied_ledger.Given as goal

abbrev pub invariant-loop-entry : goal.invariant-loop-entry
invariant-loop-entry g l = l.copies ≡ take (length l.copies) (entries_in (g.S.EntryStore.ledgers l.store) (g.S.EntryStore.entries l.store) l.fn.ledger)

abbrev pub decreases-loop-entry : goal.decreases-loop-entry
decreases-loop-entry g l = length (entries_in (g.S.EntryStore.ledgers l.store) (g.S.EntryStore.entries l.store) l.fn.ledger) - length l.copies
