use Rattle.std.proofs.Common.{◌≡◌, drop}
use Rattle.std.specs.Prelude.{nat_le}
use Rattle.std.specs.List.{list_all}
use Rattle.cursor_acks.specs.Ranges.{indexes_of}
use Rattle.audit.proofs.runs.end_by.Given as goal

abbrev pub invariant-loop-range : goal.invariant-loop-range
invariant-loop-range l =
    list_all (λ i. nat_le i l.most) (indexes_of (drop l.range-index l.ranges)) ≡ list_all (λ i. nat_le i l.most) (indexes_of l.ranges)
