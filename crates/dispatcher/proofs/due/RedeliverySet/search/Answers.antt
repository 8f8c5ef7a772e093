use Rattle.std.proofs.Common.{ℕ, ◌<◌, ◌≤◌, length, get_or, nat_lt, rules, arith, ap}
use Rattle.std.specs.Prelude.{◌≢◌}
use Rattle.std.proofs.lemmas.List.{get_or_default}
use Rattle.std.proofs.lemmas.List.Sorted.{IsPartitionPoint-from_clause, IsPartitionedBy-ltb}
use Rattle.geo_base.specs.Ascending.{IsGap, IsHere}
use Rattle.dispatcher.specs.Tables.{RedeliveryIndexes, index_itself}
use Rattle.geo_base.proofs.Ascending.{place_found, rises}
use Rattle.dispatcher.proofs.due.RedeliverySet.search.Goals as goal
use Rattle.dispatcher.proofs.due.RedeliverySet.search.Goals.{else-at-len-via-then-at-len+else-index, else-at-len-via-else-at-len}

pub returns-then-index-clause-here : goal.returns-then-index-clause-here
returns-then-index-clause-here c =
    let xs = c.self.inside.items.items in
    let at = c.partition_point-at.result in
    let found = IsPartitionPoint-from_clause (λ (x : ℕ). nat_lt (index_itself x) c.args.index) xs at c.partition_point-at.ensures.partitioned (IsPartitionedBy-ltb index_itself xs c.args.index (rises index_itself xs c.self.invariant)) (λ a r f k. search rules) in
    let within : at < length xs = omega (arith, c.if-at-len.true, c.len.ensures, c.self.inside.items.ok.0) in
    let here : IsHere ℕ index_itself xs c.args.index at = record {
      place = place_found index_itself xs c.args.index at (omega (arith, within)) found;
      within = within;
      same = λ d. grind (arith, c.if-index.true, c.index.ensures, get_or_default xs at d c.index.result.now within);
    } in
    let view = ap (λ (t : RedeliveryIndexes). t.indexes) c.self.view_is in
    rw (← view) here

pub returns-clause-gap : goal.returns-clause-gap
returns-clause-gap c =
    let xs = c.self.inside.items.items in
    let at = c.partition_point-at.result in
    let found = IsPartitionPoint-from_clause (λ (x : ℕ). nat_lt (index_itself x) c.args.index) xs at c.partition_point-at.ensures.partitioned (IsPartitionedBy-ltb index_itself xs c.args.index (rises index_itself xs c.self.invariant)) (λ a r f k. search rules) in
    let within : at ≤ length xs = omega (arith, c.partition_point-at.ensures.bound, c.self.inside.items.ok.0) in
    let other : (d : ℕ) → at < length xs → index_itself (get_or xs at d) ≢ c.args.index =
    elim c.else-at-len.branch [
      | else-at-len-via-then-at-len+else-index w ↦ λ d n e. absurd (grind (arith, w.if-index.false, w.index.ensures, get_or_default xs at d w.index.result.now n))
      | else-at-len-via-else-at-len w ↦ λ d n e. absurd (omega (arith, w.if-at-len.false, c.len.ensures, c.self.inside.items.ok.0))
    ] in
    let gap : IsGap ℕ index_itself xs c.args.index at = record { place = place_found index_itself xs c.args.index at within found; other = other } in
    let view = ap (λ (t : RedeliveryIndexes). t.indexes) c.self.view_is in
    rw (← view) gap
