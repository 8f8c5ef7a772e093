use Rattle.std.proofs.Common.{◌≡◌, ◌++◌, take}
use Rattle.std.specs.List.{flat_map}
use Rattle.tiered_storage.specs.Readable.{AreReadable}
use Rattle.tiered_storage.specs.Texts.{item_text}
use Rattle.tiered_storage.proofs.writing.put_each.Given as goal

abbrev pub invariant-loop-entry : goal.invariant-loop-entry
invariant-loop-entry l = record {
  text : l.out ≡ l.initial.out ++ flat_map (item_text l.names l.own) (take l.entry-index l.entries);
  readable : AreReadable l.names l.own (take l.entry-index l.entries);
}
