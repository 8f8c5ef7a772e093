use Rattle.std.proofs.Common.{ℕ, ◌≡◌, ◌≤◌, length, drop, rules, arith, ap, sym, ◌∙◌}
use Rattle.std.specs.Prelude.{nat_le}
use Rattle.std.proofs.lemmas.List.Sorted.{IsPartitionPoint-from_clause, IsPartitionedBy-leb}
use Rattle.dispatcher.specs.Tables.{RedeliveryIndexes, index_itself}
use Rattle.geo_base.proofs.Ascending.{rises}
use Rattle.dispatcher.proofs.Kept.{dropped_to}
use Rattle.dispatcher.proofs.due.RedeliverySet.forget_to.Goals as goal

pub returns-clause-indexes : goal.returns-clause-indexes
returns-clause-indexes c =
    let xs = c.self.inside.items.items in
    let gone = c.partition_point-gone.result in
    let within : gone ≤ length xs = omega (arith, c.partition_point-gone.ensures.bound, c.self.inside.items.ok.0) in
    let found = IsPartitionPoint-from_clause (λ (x : ℕ). nat_le (index_itself x) c.args.index) xs gone c.partition_point-gone.ensures.partitioned (IsPartitionedBy-leb index_itself xs c.args.index (rises index_itself xs c.self.invariant)) (λ a r f k. search rules) in
    let all : c.loop-place._place ≡ gone = omega arith in
    let view = ap (λ (t : RedeliveryIndexes). t.indexes) c.self.view_is in
    rw (← view) (c.loop-place.invariant.rest ∙ ap (λ n. drop n xs) all ∙ sym (dropped_to index_itself c.args.index xs gone within found))
