use Rattle.tiered_storage.specs.Tiered.{Holds}
use Rattle.part_cases.proofs.tiering.are_read.Given as goal

abbrev pub invariant-loop-row : goal.invariant-loop-row
invariant-loop-row g l = Holds l.names g.T.Tier.kept g.entries l.tiered

abbrev pub ghost-read_once : goal.ghost-read_once
ghost-read_once g a = g.entries
