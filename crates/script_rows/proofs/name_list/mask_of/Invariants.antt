use Rattle.std.proofs.Common.{◌≡◌, ◌≤◌, drop, length}
use Rattle.script_rows.specs.NameBytes.{mask_of}
use Rattle.script_rows.proofs.name_list.mask_of.Given as goal

abbrev pub invariant-loop-at : goal.invariant-loop-at
invariant-loop-at l = record {
  so_far : l.mask ≡ mask_of (drop l.at l.table) l.names;
  within : l.at ≤ length l.table;
}

abbrev pub decreases-loop-at : goal.decreases-loop-at
decreases-loop-at l = l.at
