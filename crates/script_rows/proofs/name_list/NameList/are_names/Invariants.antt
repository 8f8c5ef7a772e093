use Rattle.std.proofs.Common.{◌≡◌, length}
use Rattle.std.specs.List.{list_all}
use Rattle.script_rows.specs.NameWords.{has_name_bytes}
use Rattle.script_rows.proofs.name_list.NameList.are_names.Given as goal

abbrev pub invariant-loop-name : goal.invariant-loop-name
invariant-loop-name l = list_all has_name_bytes l.left ≡ list_all has_name_bytes l.self

abbrev pub decreases-loop-name : goal.decreases-loop-name
decreases-loop-name l = length l.left
