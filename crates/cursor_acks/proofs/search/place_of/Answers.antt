use Rattle.std.proofs.Common.{nat_lt, rules}
use Rattle.std.proofs.lemmas.List.Sorted.{IsPartitionPoint-from_clause, IsPartitionedBy-ltb}
use Rattle.cursor_acks.specs.declared.range.IndexRange.{IndexRange}
use Rattle.cursor_acks.proofs.RangeIndexes.{place_found, rises}
use Rattle.cursor_acks.proofs.search.place_of.Goals as goal

pub returns : goal.returns
returns c =
    let rs = c.args.ranges.now in
    let p = IsPartitionPoint-from_clause (λ (r : IndexRange). nat_lt r.last c.args.index) rs c.partition_point.result c.partition_point.ensures.partitioned (IsPartitionedBy-ltb (λ (r : IndexRange). r.last) rs c.args.index (rises rs c.requires)) (λ a r f k. search rules) in
    place_found rs c.args.index c.partition_point.result c.requires c.partition_point.ensures.bound p
