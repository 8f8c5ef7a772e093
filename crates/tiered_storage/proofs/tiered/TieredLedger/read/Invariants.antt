use Rattle.tiered_storage.proofs.tiered.TieredLedger.read.Given as goal

abbrev pub ghost-read_away : goal.ghost-read_away
ghost-read_away g a = g.entries
