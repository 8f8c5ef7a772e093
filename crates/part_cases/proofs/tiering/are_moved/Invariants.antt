use Rattle.tiered_storage.specs.Tiered.{Holds}
use Rattle.part_cases.proofs.tiering.are_moved.Given as goal

abbrev pub invariant-loop-row : goal.invariant-loop-row
invariant-loop-row g l = Holds l.names g.T.Tier.kept g.entries l.tiered

abbrev pub ghost-offload : goal.ghost-offload
ghost-offload g a = g.entries
