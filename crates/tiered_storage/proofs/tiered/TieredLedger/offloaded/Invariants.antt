use Rattle.std.proofs.Common.{◌≡◌, ◌≤◌, take}
use Rattle.std.specs.List.{count_by}
use Rattle.tiered_storage.specs.Calls.{is_away}
use Rattle.tiered_storage.proofs.tiered.TieredLedger.offloaded.Given as goal

abbrev pub invariant-loop-part : goal.invariant-loop-part
invariant-loop-part g l = record {
  counted : l.count ≡ count_by is_away (take l.part-index l.part-items);
  below : l.count ≤ l.part-index;
}
