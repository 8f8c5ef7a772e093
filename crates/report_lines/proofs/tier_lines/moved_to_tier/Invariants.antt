use Rattle.report_lines.proofs.tier_lines.moved_to_tier.Given as goal

abbrev pub ghost-moved : goal.ghost-moved
ghost-moved g a = g.S.EntryStore.entries a.store.now
