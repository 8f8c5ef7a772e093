use Rattle.std.proofs.Common.{◌≡◌, map, take}
use Rattle.pb_fields.specs.declared.field.Value.TheVariants as value
use Rattle.pb_fields.specs.Message.{values}
use Rattle.message_meta.proofs.read.texts.Given as goal

abbrev pub invariant-loop-field : goal.invariant-loop-field
invariant-loop-field l = values l.number (take l.field-index l.fields) ≡ map value.Bytes l.texts
