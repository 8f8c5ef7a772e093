use Rattle.tiered_storage.specs.Tiered.{Holds}
use Rattle.part_cases.proofs.tiering.are_kept.Given as goal

abbrev pub invariant-loop-ledger : goal.invariant-loop-ledger
invariant-loop-ledger g l = Holds l.names g.T.Tier.kept g.entries l.tiered

abbrev pub invariant-loop-i : goal.invariant-loop-i
invariant-loop-i g l = Holds l.names g.T.Tier.kept g.entries l.tiered

abbrev pub ghost-moves : goal.ghost-moves
ghost-moves g a = g.entries

abbrev pub ghost-reads : goal.ghost-reads
ghost-reads g a = g.entries
