use Rattle.std.proofs.Common.{◌≤◌, length}
use Rattle.pb_fields.specs.Buffer.{Filled, Puts}
use Rattle.pb_fields.specs.Canonical.{varint}
use Rattle.pb_fields.proofs.buffer.Buffer.put_number.Given as goal

abbrev pub invariant-loop-rest : goal.invariant-loop-rest
invariant-loop-rest l = record {
  room : length (varint l.rest) ≤ l.self.spare;
  so_far : (whole : Filled) → Puts l.self (varint l.rest) whole → Puts l.fn.self (varint l.number) whole;
}

abbrev pub decreases-loop-rest : goal.decreases-loop-rest
decreases-loop-rest l = l.rest
