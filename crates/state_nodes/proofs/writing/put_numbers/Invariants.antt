use Rattle.std.proofs.Common.{◌≡◌, ◌++◌, take}
use Rattle.std.specs.List.{flat_map}
use Rattle.state_items.specs.Texts.{number}
use Rattle.state_nodes.proofs.writing.put_numbers.Given as goal

abbrev pub invariant-loop-each : goal.invariant-loop-each
invariant-loop-each l = l.out ≡ l.initial.out ++ flat_map number (take l.each-index l.numbers)
