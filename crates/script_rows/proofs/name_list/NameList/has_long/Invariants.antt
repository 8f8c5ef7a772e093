use Rattle.std.proofs.Common.{◌≡◌, length}
use Rattle.script_rows.specs.NameBytes.{has_long}
use Rattle.script_rows.proofs.name_list.NameList.has_long.Given as goal

abbrev pub invariant-loop-name : goal.invariant-loop-name
invariant-loop-name l = has_long l.left ≡ has_long l.self

abbrev pub decreases-loop-name : goal.decreases-loop-name
decreases-loop-name l = length l.left
