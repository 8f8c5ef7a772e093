use Rattle.part_cases.proofs.tiering.is_told.Given as goal

abbrev pub ghost-is_story : goal.ghost-is_story
ghost-is_story g a = g.S.EntryStore.entries a.store.now
