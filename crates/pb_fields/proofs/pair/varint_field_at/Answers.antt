use Rattle.std.proofs.Common.{◌+◌, ◌*◌, refl}
use Rattle.pb_fields.specs.declared.field.WireType.TheVariants as wire
use Rattle.pb_fields.specs.Faults as broken
use Rattle.pb_fields.specs.Field.{varint_field, wire_number}
use Rattle.pb_fields.proofs.Fields.{takes_field}
use Rattle.pb_fields.proofs.Pairs.{no_value}
use Rattle.pb_fields.proofs.ValueTexts.{takes_varint}
use Rattle.pb_fields.proofs.pair.varint_field_at.Goals as goal

pub returns-in_err-number : goal.returns-in_err-number
returns-in_err-number c = rw c.from_residual.ensures (λ n v rest t. c.in_err-number.ensures (varint_field n v) rest refl t)

pub returns-in_default : goal.returns-in_default
returns-in_default c =
    let tag = c.in_ok-number.ensures in
    λ n v rest t. no_value c.args.bytes.now c.in_ok-number.rest.now c.in_ok-number.number wire.Varint c.in_default.field-0 tag.0 tag.1 tag.2 (broken.varint c.in_default.ensures.err) (varint_field n v) rest t

pub returns : goal.returns
returns c =
    let n = c.in_ok-number.number in
    let tag = c.in_ok-number.ensures in
    let at = c.in_ok-number.rest.now in
    takes_field c.args.bytes.now at c.in-Ok.rest.now (8 * n + wire_number wire.Varint) wire.Varint (varint_field n c.in-Ok.varint) tag.0 refl tag.1 tag.2 (takes_varint at c.in-Ok.varint c.in-Ok.rest.now c.in-Ok.ensures.ok)
