use Rattle.std.proofs.Common.{◌≡◌, ◌≢◌, ◌%◌, ◌/◌, arith}
use Rattle.pb_fields.specs.declared.field.WireType.{WireType}
use Rattle.pb_fields.specs.Field.{wire_number}
use Rattle.pb_fields.specs.Faults.{too_large, wire_type, number}
use Rattle.pb_fields.proofs.read.number_and_type.Goals as goal

pub returns-in_default-clause-err : goal.returns-in_default-clause-err
returns-in_default-clause-err c = λ rest. too_large (omega (arith, c.in_default.ensures))

pub returns-in_default-from_number-clause-err : goal.returns-in_default-from_number-clause-err
returns-in_default-from_number-clause-err c = λ rest.
    let none : (w : WireType) → c.args.tag % 8 ≢ wire_number w = rw c.in-Ok.ensures.1 at c.in_default-from_number.ensures in
    wire_type c.in-Ok.ensures.0 none

pub returns-then-number-eq0-clause-err : goal.returns-then-number-eq0-clause-err
returns-then-number-eq0-clause-err c = λ rest.
    let of_type : c.args.tag % 8 ≡ wire_number c.in-Some.wire = rw c.in-Ok.ensures.1 at c.in-Some.ensures in
    let zero : c.args.tag / 8 ≡ 0 = rw c.in-Ok.ensures.1 at c.if-number-eq0.true in
    number c.in-Some.wire c.in-Ok.ensures.0 of_type zero
