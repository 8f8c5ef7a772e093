use Rattle.std.proofs.Common.{◌≡◌, ◌≤◌, ◌+◌, ◌-◌}
use Rattle.geo_base.specs.Cursor.{with_indexes}
use Rattle.geo_base.specs.Updating.{updated_indexes}
use Rattle.replicated_subs.specs.Alone.{alone}
use Rattle.replicated_subs.proofs.Walk.{is_passed, walk}
use Rattle.replicated_subs.proofs.update_writes.update_to.Given as goal

-- doing what is left is doing all from the start, and there is room for it
abbrev pub invariant-loop-at : goal.invariant-loop-at
invariant-loop-at g l = record {
  acked : with_indexes l.cursor.indexes (walk (is_passed l.from (g.S.EntryStore.entries l.store)) l.at (l.index + 1 - l.at)) ≡ with_indexes l.fn.cursor.indexes (updated_indexes l.from 0 (l.index + 1) (g.S.EntryStore.entries l.store));
  room : alone l.cursor.indexes (walk (is_passed l.from (g.S.EntryStore.entries l.store)) l.at (l.index + 1 - l.at)) ≤ l.cursor.spare;
}

abbrev pub decreases-loop-at : goal.decreases-loop-at
decreases-loop-at g l = l.index + 1 - l.at
