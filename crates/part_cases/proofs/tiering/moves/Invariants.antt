use Rattle.part_cases.proofs.tiering.moves.Given as goal

abbrev pub ghost-offload : goal.ghost-offload
ghost-offload g a = g.entries
