use Rattle.std.proofs.Common.{◌≡◌, ◌++◌, length, take}
use Rattle.std.specs.List.{flat_map}
use Rattle.state_items.specs.Texts.{range}
use Rattle.state_items.proofs.writing.put_each.Given as goal

-- the texts so far and those of the ranges that are left make the whole
abbrev pub invariant-loop-each : goal.invariant-loop-each
invariant-loop-each l = record {
  so_far : l.out ++ flat_map range l.each-iterator ≡ l.fn.out ++ flat_map range l.ranges.list;
  begins : take (length l.fn.out) l.out ≡ l.fn.out;
}
