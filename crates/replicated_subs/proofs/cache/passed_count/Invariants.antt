use Rattle.std.proofs.Common.{◌≡◌, ◌≤◌, drop}
use Rattle.replicated_subs.specs.Counting.{passed_count}
use Rattle.replicated_subs.proofs.Passing.{counted_from}
use Rattle.replicated_subs.proofs.cache.passed_count.Given as goal

-- what is counted so far, with what is still to come, is the whole count
abbrev pub invariant-loop-place : goal.invariant-loop-place
invariant-loop-place l = record {
  counted : counted_from l.mark l.place l.count (drop l.place l.items.items) ≡ passed_count l.mark l.items.items;
  within : l.count ≤ l.place;
}
