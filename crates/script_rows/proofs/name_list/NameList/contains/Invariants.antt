use Rattle.std.proofs.Common.{◌≡◌, length}
use Rattle.script_rows.specs.NameBytes.{is_among}
use Rattle.script_rows.proofs.name_list.NameList.contains.Given as goal

abbrev pub invariant-loop-name : goal.invariant-loop-name
invariant-loop-name l = is_among l.left l.word ≡ is_among l.self l.word

abbrev pub decreases-loop-name : goal.decreases-loop-name
decreases-loop-name l = length l.left
