use Rattle.std.proofs.Common.{◌≡◌, ◌≤◌, ◌*◌, length, map, take}
use Rattle.pb_fields.specs.Canonical.{text}
use Rattle.pulsar_commands.specs.Canonical.{id_field}
use Rattle.pulsar_commands.proofs.acks.ids_size.Given as goal

abbrev pub invariant-loop-position : goal.invariant-loop-position
invariant-loop-position l = record {
  size : l.size ≡ length (text (map (id_field 3) (take l.position-index l.positions)));
  few : l.size ≤ 24 * l.position-index;
}
