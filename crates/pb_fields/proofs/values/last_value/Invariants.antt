use Rattle.std.proofs.Common.{◌≡◌, take}
use Rattle.std.specs.Option.{option_copied}
use Rattle.pb_fields.specs.Message.{last_value}
use Rattle.pb_fields.proofs.values.last_value.Given as goal

abbrev pub invariant-loop-field : goal.invariant-loop-field
invariant-loop-field l = option_copied l.last ≡ last_value l.number (take l.field-index l.fields)
