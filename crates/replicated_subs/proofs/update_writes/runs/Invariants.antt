use Rattle.std.proofs.Common.{◌≡◌, ◌≤◌, ◌+◌, ◌-◌, false}
use Rattle.geo_base.specs.Cursor.{has}
use Rattle.geo_base.specs.Updating.{updated_indexes}
use Rattle.replicated_subs.specs.Alone.{alone}
use Rattle.replicated_subs.proofs.Walk.{is_passed, so_far, walk}
use Rattle.replicated_subs.proofs.update_writes.runs.Given as goal

-- what is counted, with what is still to be counted once all below are passed over, is the whole count
abbrev pub invariant-loop-at : goal.invariant-loop-at
invariant-loop-at g l = record {
  rest : l.count + alone (so_far (is_passed l.from (g.S.EntryStore.entries l.store)) l.cursor.indexes l.at) (walk (is_passed l.from (g.S.EntryStore.entries l.store)) l.at (l.end - l.at)) ≡ alone l.cursor.indexes (updated_indexes l.from 0 (l.index + 1) (g.S.EntryStore.entries l.store));
  outside : has l.cursor.indexes l.at ≡ false;
  few : l.count ≤ l.at;
}

abbrev pub decreases-loop-at : goal.decreases-loop-at
decreases-loop-at g l = l.end - l.at
