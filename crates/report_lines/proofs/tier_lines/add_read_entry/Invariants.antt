use Rattle.report_lines.proofs.tier_lines.add_read_entry.Given as goal

abbrev pub ghost-read : goal.ghost-read
ghost-read g a = g.entries
