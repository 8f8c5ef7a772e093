use Rattle.std.proofs.Common.{◌<◌, ◌≤◌, length, get_or, nat_lt, rules, arith, ap}
use Rattle.std.specs.Prelude.{◌≢◌}
use Rattle.std.proofs.lemmas.List.{get_or_default}
use Rattle.std.proofs.lemmas.List.Sorted.{IsPartitionPoint-from_clause, IsPartitionedBy-ltb}
use Rattle.dispatcher.specs.declared.slot.Slot.{Slot}
use Rattle.dispatcher.specs.Slots.{slot_index}
use Rattle.geo_base.specs.Ascending.{IsGap, IsHere}
use Rattle.dispatcher.specs.Tables.{UnackedIndexes}
use Rattle.geo_base.proofs.Ascending.{place_found, rises}
use Rattle.dispatcher.proofs.unacked.UnackedTable.search.Goals as goal
use Rattle.dispatcher.proofs.unacked.UnackedTable.search.Goals.{else-at-len-via-then-at-len+else-index, else-at-len-via-else-at-len}

pub returns-then-index-clause-here : goal.returns-then-index-clause-here
returns-then-index-clause-here c =
    let xs = c.self.inside.slots.items in
    let at = c.partition_point-at.result in
    let found = IsPartitionPoint-from_clause (λ (x : Slot). nat_lt (slot_index x) c.args.index) xs at c.partition_point-at.ensures.partitioned (IsPartitionedBy-ltb slot_index xs c.args.index (rises slot_index xs c.self.invariant.ascending)) (λ a r f k. search rules) in
    let within : at < length xs = omega (arith, c.if-at-len.true, c.len.ensures, c.self.inside.slots.ok.0) in
    let here : IsHere Slot slot_index xs c.args.index at = record {
      place = place_found slot_index xs c.args.index at (omega (arith, within)) found;
      within = within;
      same = λ d. grind (arith, c.if-index.true, c.index.ensures, get_or_default xs at d c.index.result.now within);
    } in
    let view = ap (λ (t : UnackedIndexes). t.slots) c.self.view_is in
    rw (← view) here

pub returns-clause-gap : goal.returns-clause-gap
returns-clause-gap c =
    let xs = c.self.inside.slots.items in
    let at = c.partition_point-at.result in
    let found = IsPartitionPoint-from_clause (λ (x : Slot). nat_lt (slot_index x) c.args.index) xs at c.partition_point-at.ensures.partitioned (IsPartitionedBy-ltb slot_index xs c.args.index (rises slot_index xs c.self.invariant.ascending)) (λ a r f k. search rules) in
    let within : at ≤ length xs = omega (arith, c.partition_point-at.ensures.bound, c.self.inside.slots.ok.0) in
    let other : (d : Slot) → at < length xs → slot_index (get_or xs at d) ≢ c.args.index =
    elim c.else-at-len.branch [
      | else-at-len-via-then-at-len+else-index w ↦ λ d n e. absurd (grind (arith, w.if-index.false, w.index.ensures, get_or_default xs at d w.index.result.now n))
      | else-at-len-via-else-at-len w ↦ λ d n e. absurd (omega (arith, w.if-at-len.false, c.len.ensures, c.self.inside.slots.ok.0))
    ] in
    let gap : IsGap Slot slot_index xs c.args.index at = record { place = place_found slot_index xs c.args.index at within found; other = other } in
    let view = ap (λ (t : UnackedIndexes). t.slots) c.self.view_is in
    rw (← view) gap
