use Rattle.std.proofs.Common.{◌≡◌, ◌-◌, drop, length}
use Rattle.std.specs.List.{join_with_byte}
use Rattle.script_rows.specs.NameBytes.{names_in}
use Rattle.script_rows.proofs.Lists.{ended}
use Rattle.script_rows.proofs.name_list.list_word.Given as goal

abbrev pub invariant-loop-at : goal.invariant-loop-at
invariant-loop-at l = ended l.is_first l.word (names_in (drop l.at l.table) l.left) ≡ join_with_byte 44 (names_in l.table l.mask)

abbrev pub decreases-loop-at : goal.decreases-loop-at
decreases-loop-at l = length l.table - l.at
