use Rattle.part_cases.proofs.tiering.is_kept.Given as goal

abbrev pub ghost-are_kept : goal.ghost-are_kept
ghost-are_kept g a = g.S.EntryStore.entries a.store.now
