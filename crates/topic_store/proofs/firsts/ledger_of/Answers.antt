use Rattle.std.proofs.Common.{ℕ, nat_le, arith, rules}
use Rattle.std.proofs.lemmas.List.Sorted.{IsPartitionPoint-from_clause, IsPartitionedBy-leb, IsNonDecreasingBy-from_default}
use Rattle.topic_store.proofs.Searched.{ledger_found, place_above, Splits}
use Rattle.topic_store.proofs.firsts.ledger_of.Goals as goal

pub overflow_sub-result : goal.overflow_sub-result
overflow_sub-result c =
    let fs = c.args.firsts.now in
    let split : Splits fs c.args.index c.partition_point.result = IsPartitionPoint-from_clause (λ (f : ℕ). nat_le f c.args.index) fs c.partition_point.result c.partition_point.ensures.partitioned (IsPartitionedBy-leb (λ (f : ℕ). f) fs c.args.index (IsNonDecreasingBy-from_default (λ (f : ℕ). f) fs 0 c.requires.rise)) (λ a r f k. search rules) in
    let p = place_above fs c.args.index c.partition_point.result c.requires.opened c.requires.begun c.partition_point.ensures.bound split in
    omega arith

pub returns : goal.returns
returns c =
    let fs = c.args.firsts.now in
    let split : Splits fs c.args.index c.partition_point.result = IsPartitionPoint-from_clause (λ (f : ℕ). nat_le f c.args.index) fs c.partition_point.result c.partition_point.ensures.partitioned (IsPartitionedBy-leb (λ (f : ℕ). f) fs c.args.index (IsNonDecreasingBy-from_default (λ (f : ℕ). f) fs 0 c.requires.rise)) (λ a r f k. search rules) in
    ledger_found fs c.args.index c.partition_point.result c.requires.opened c.requires.begun c.partition_point.ensures.bound split
