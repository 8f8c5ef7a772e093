use Rattle.report_lines.proofs.tier_lines.move_ledger.Given as goal

abbrev pub ghost-offload : goal.ghost-offload
ghost-offload g a = g.entries
