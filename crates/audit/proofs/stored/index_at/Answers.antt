use Rattle.std.proofs.Common.{◌≤◌, ◌∙◌, length, true, rules, sym, arith}
use Rattle.std.proofs.lemmas.List.Sorted.{IsPartitionPoint-from_clause}
use Rattle.geo_base.specs.declared.position.Position.{Position}
use Rattle.geo_base.specs.Position.{position_lt}
use Rattle.audit.proofs.Tables.{IsPointOf, ascend_parted, index_found, index_missing}
use Rattle.audit.proofs.stored.index_at.Goals as goal
use Rattle.audit.proofs.stored.index_at.Goals.{then-at-positions-via-then-at-positions, then-at-positions-via-else-at-positions+then-not-is_same_position}

abbrev first : Position
first = record { ledger = 0; entry = 0 }

pub returns-then-at-positions : goal.returns-then-at-positions
returns-then-at-positions c =
    let ps = c.args.positions.now in let p = c.args.position.now in let at = c.partition_point-at.result in
    let point : IsPointOf ps p at = IsPartitionPoint-from_clause (λ (q : Position). position_lt q p) ps at c.partition_point-at.ensures.partitioned (ascend_parted ps p c.requires) (λ a r f k. search rules) in
    let within : at ≤ length ps = c.partition_point-at.ensures.bound in
    elim c.then-at-positions.branch [
      | then-at-positions-via-then-at-positions w ↦
          sym (index_missing ps p first at c.requires within point (λ lt. let past = w.if-at-positions.true in absurd (omega (arith, lt, past))))
      | then-at-positions-via-else-at-positions+then-not-is_same_position w ↦
          sym (index_missing ps p first at c.requires within point (λ lt. sym w.is_same_position.ensures ∙ w.if-not-is_same_position.true))
    ]

pub returns : goal.returns
returns c =
    let ps = c.args.positions.now in let p = c.args.position.now in let at = c.partition_point-at.result in
    let point : IsPointOf ps p at = IsPartitionPoint-from_clause (λ (q : Position). position_lt q p) ps at c.partition_point-at.ensures.partitioned (ascend_parted ps p c.requires) (λ a r f k. search rules) in
    sym (index_found ps p first at c.requires point c.if-at-positions.false (sym c.is_same_position.ensures ∙ c.if-not-is_same_position.false))
