use Rattle.std.proofs.Common.{take}
use Rattle.std.specs.List.{AllByRecursion}
use Rattle.pb_fields.specs.Embedded.{FitsWith}
use Rattle.pb_fields.proofs.embedded.check_fields_with.Given as goal

abbrev pub invariant-loop-field : goal.invariant-loop-field
invariant-loop-field g l = AllByRecursion (FitsWith (g.E.Embedded.right l.embedded) l.rows) (take l.field-index l.fields)
