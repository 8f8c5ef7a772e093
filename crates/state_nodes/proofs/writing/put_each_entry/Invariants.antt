use Rattle.std.proofs.Common.{◌≡◌, ◌++◌, take}
use Rattle.std.specs.List.{flat_map}
use Rattle.state_items.specs.EntryTexts.{entry_text}
use Rattle.state_nodes.proofs.writing.put_each_entry.Given as goal

abbrev pub invariant-loop-entry : goal.invariant-loop-entry
invariant-loop-entry l = l.out ≡ l.initial.out ++ flat_map (entry_text l.names l.own) (take l.entry-index l.entries)
