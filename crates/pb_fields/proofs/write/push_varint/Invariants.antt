use Rattle.std.proofs.Common.{◌≡◌, ◌++◌}
use Rattle.pb_fields.specs.Canonical.{varint, Extends}
use Rattle.pb_fields.proofs.write.push_varint.Given as goal

abbrev pub invariant-loop-rest : goal.invariant-loop-rest
invariant-loop-rest l = record {
  so_far : l.out ++ varint l.rest ≡ l.fn.out ++ varint l.number;
  begins : Extends l.fn.out l.out;
}

abbrev pub decreases-loop-rest : goal.decreases-loop-rest
decreases-loop-rest l = l.rest
