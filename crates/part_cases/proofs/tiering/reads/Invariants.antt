use Rattle.part_cases.proofs.tiering.reads.Given as goal

abbrev pub ghost-read_once : goal.ghost-read_once
ghost-read_once g a = g.entries
