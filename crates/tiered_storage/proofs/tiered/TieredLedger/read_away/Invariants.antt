use Rattle.tiered_storage.proofs.tiered.TieredLedger.read_away.Given as goal

abbrev pub ghost-fetch : goal.ghost-fetch
ghost-fetch g a = g.entries
