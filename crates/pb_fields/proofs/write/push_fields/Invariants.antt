use Rattle.std.proofs.Common.{◌≡◌, ◌++◌, take}
use Rattle.std.specs.List.{AllByRecursion}
use Rattle.pb_fields.specs.Field.{IsField}
use Rattle.pb_fields.specs.Canonical.{text, Extends}
use Rattle.pb_fields.proofs.write.push_fields.Given as goal

abbrev pub invariant-loop-field : goal.invariant-loop-field
invariant-loop-field l = record {
  so_far : l.out ≡ l.fn.out ++ text (take l.field-index l.fields);
  fields : AllByRecursion IsField (take l.field-index l.fields);
  begins : Extends l.fn.out l.out;
}
