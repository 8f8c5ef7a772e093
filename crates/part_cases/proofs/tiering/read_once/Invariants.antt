use Rattle.part_cases.proofs.tiering.read_once.Given as goal

abbrev pub ghost-read : goal.ghost-read
ghost-read g a = g.entries
