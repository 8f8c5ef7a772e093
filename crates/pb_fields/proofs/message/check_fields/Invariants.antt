use Rattle.std.proofs.Common.{take}
use Rattle.std.specs.List.{AllByRecursion}
use Rattle.pb_fields.specs.Message.{Fits}
use Rattle.pb_fields.proofs.message.check_fields.Given as goal

abbrev pub invariant-loop-field : goal.invariant-loop-field
invariant-loop-field l = AllByRecursion (Fits l.rows) (take l.field-index l.fields)
