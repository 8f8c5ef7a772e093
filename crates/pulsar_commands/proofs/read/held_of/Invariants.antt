use Rattle.std.proofs.Common.{take}
use Rattle.std.specs.List.{AllByRecursion}
use Rattle.pb_fields.specs.Embedded.{FitsWith}
use Rattle.pulsar_commands.specs.Table.{held_rows}
use Rattle.pulsar_commands.specs.Text.{BodyRight}
use Rattle.pulsar_commands.proofs.Held.{IsKept}
use Rattle.pulsar_commands.proofs.read.held_of.Given as goal

abbrev pub invariant-loop-field : goal.invariant-loop-field
invariant-loop-field l = AllByRecursion (FitsWith (BodyRight l.kind) (held_rows l.kind)) (take l.field-index l.fields) × IsKept l.kind (take l.field-index l.fields) l.held
