use Rattle.part_cases.proofs.tiering.is_story.Given as goal

abbrev pub ghost-are_moved : goal.ghost-are_moved
ghost-are_moved g a = g.entries

abbrev pub ghost-are_read : goal.ghost-are_read
ghost-are_read g a = g.entries
