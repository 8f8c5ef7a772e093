use Rattle.std.proofs.Common.{◌≡◌, nat_lt, List, ap, rules}
use Rattle.std.proofs.lemmas.List.Sorted.{IsPartitionPoint-from_clause, IsPartitionedBy-ltb}
use Rattle.cursor_acks.specs.declared.range.IndexRange.{IndexRange}
use Rattle.cursor_acks.specs.Blocks.{BlockList, end_of, joined}
use Rattle.cursor_acks.specs.RangeIndexes.{AreKept}
use Rattle.cursor_acks.proofs.Found.{ends_rise, found_point}
use Rattle.cursor_acks.proofs.blocks.Blocks.find.Goals as goal

pub returns : goal.returns
returns c =
    let bs = c.self.inside.items.items in
    let ss = c.deref.result.now in
    let there : ss ≡ bs = c.deref.ensures.value in
    let same : bs ≡ c.args.self.now.list = ap (λ (b : BlockList). b.list) c.self.view_is in
    let kept : AreKept (joined bs) = rw (← same) at c.requires in
    let p = IsPartitionPoint-from_clause (λ (b : List IndexRange). nat_lt (end_of b) c.args.index) ss c.partition_point.result c.partition_point.ensures.partitioned (IsPartitionedBy-ltb end_of ss c.args.index (rw there (ends_rise bs kept c.self.invariant.some))) (λ a r f k. search rules) in
    let point = rw there at (found_point ss c.args.index c.partition_point.result p) in
    rw (← c.self.view_is) (record { within = rw there at c.partition_point.ensures.bound; before = point.0; after = point.1; some = c.self.invariant.some })
