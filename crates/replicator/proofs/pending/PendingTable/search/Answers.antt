use Rattle.std.proofs.Common.{◌<◌, ◌≤◌, length, get_or, nat_lt, rules, arith, ap}
use Rattle.std.specs.Prelude.{◌≢◌}
use Rattle.std.proofs.lemmas.List.{get_or_default}
use Rattle.std.proofs.lemmas.List.Sorted.{IsPartitionPoint-from_clause, IsPartitionedBy-ltb}
use Rattle.geo_base.specs.declared.replicator.Pending.{Pending}
use Rattle.geo_base.specs.Ascending.{IsGap, IsHere}
use Rattle.geo_base.proofs.Ascending.{place_found, rises}
use Rattle.replicator.specs.Sending.{PendingEntries, number_of}
use Rattle.replicator.proofs.pending.PendingTable.search.Goals as goal
use Rattle.replicator.proofs.pending.PendingTable.search.Goals.{else-at-len-via-then-at-len+else-index-number, else-at-len-via-else-at-len}

pub returns-then-index-number-clause-here : goal.returns-then-index-number-clause-here
returns-then-index-number-clause-here c =
    let xs = c.self.inside.items.items in
    let at = c.partition_point-at.result in
    let found = IsPartitionPoint-from_clause (λ (x : Pending). nat_lt (number_of x) c.args.number) xs at c.partition_point-at.ensures.partitioned (IsPartitionedBy-ltb number_of xs c.args.number (rises number_of xs c.self.invariant)) (λ a r f k. search rules) in
    let within : at < length xs = omega (arith, c.if-at-len.true, c.len.ensures, c.self.inside.items.ok.0) in
    let here : IsHere Pending number_of xs c.args.number at = record {
      place = place_found number_of xs c.args.number at (omega (arith, within)) found;
      within = within;
      same = λ d. grind (arith, c.if-index-number.true, c.index.ensures, get_or_default xs at d c.index.result.now within);
    } in
    let view = ap (λ (t : PendingEntries). t.items) c.self.view_is in
    rw (← view) here

pub returns-clause-gap : goal.returns-clause-gap
returns-clause-gap c =
    let xs = c.self.inside.items.items in
    let at = c.partition_point-at.result in
    let found = IsPartitionPoint-from_clause (λ (x : Pending). nat_lt (number_of x) c.args.number) xs at c.partition_point-at.ensures.partitioned (IsPartitionedBy-ltb number_of xs c.args.number (rises number_of xs c.self.invariant)) (λ a r f k. search rules) in
    let within : at ≤ length xs = omega (arith, c.partition_point-at.ensures.bound, c.self.inside.items.ok.0) in
    let other : (d : Pending) → at < length xs → number_of (get_or xs at d) ≢ c.args.number =
    elim c.else-at-len.branch [
      | else-at-len-via-then-at-len+else-index-number w ↦ λ d n e. absurd (grind (arith, w.if-index-number.false, w.index.ensures, get_or_default xs at d w.index.result.now n))
      | else-at-len-via-else-at-len w ↦ λ d n e. absurd (omega (arith, w.if-at-len.false, c.len.ensures, c.self.inside.items.ok.0))
    ] in
    let gap : IsGap Pending number_of xs c.args.number at = record { place = place_found number_of xs c.args.number at within found; other = other } in
    let view = ap (λ (t : PendingEntries). t.items) c.self.view_is in
    rw (← view) gap
