use Rattle.std.proofs.Common.{map, take}
use Rattle.std.specs.List.{AllByRecursion}
use Rattle.pb_fields.specs.Buffer.{Puts}
use Rattle.pb_fields.specs.Canonical.{text}
use Rattle.pulsar_commands.specs.Canonical.{IsPosition, id_field}
use Rattle.pulsar_commands.proofs.acks.put_ids.Given as goal

abbrev pub invariant-loop-position : goal.invariant-loop-position
invariant-loop-position l = record {
  so_far : Puts l.fn.out (text (map (id_field 3) (take l.position-index l.positions))) l.out;
  writable : AllByRecursion IsPosition (take l.position-index l.positions);
}
