use Rattle.std.proofs.Common.{take}
use Rattle.pb_fields.specs.Message.{values}
use Rattle.pulsar_commands.specs.Part.{AreIds}
use Rattle.pulsar_commands.proofs.ids.all_ids.Given as goal

abbrev pub invariant-loop-field : goal.invariant-loop-field
invariant-loop-field l = AreIds (values l.number (take l.field-index l.fields)) l.positions
