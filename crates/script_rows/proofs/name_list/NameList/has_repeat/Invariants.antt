use Rattle.std.proofs.Common.{◌≡◌, length}
use Rattle.script_rows.specs.NameBytes.{has_repeat}
use Rattle.script_rows.proofs.name_list.NameList.has_repeat.Given as goal

abbrev pub invariant-loop-name : goal.invariant-loop-name
invariant-loop-name l = has_repeat l.left ≡ has_repeat l.self

abbrev pub decreases-loop-name : goal.decreases-loop-name
decreases-loop-name l = length l.left
