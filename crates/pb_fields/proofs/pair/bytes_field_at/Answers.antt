use Rattle.std.proofs.Common.{◌+◌, ◌*◌, refl}
use Rattle.pb_fields.specs.declared.field.WireType.TheVariants as wire
use Rattle.pb_fields.specs.Field.{bytes_field, wire_number}
use Rattle.pb_fields.proofs.Fields.{takes_field}
use Rattle.pb_fields.proofs.Pairs.{no_value}
use Rattle.pb_fields.proofs.ValueTexts.{takes_bytes}
use Rattle.pb_fields.proofs.pair.bytes_field_at.Goals as goal

pub returns-in_err-number : goal.returns-in_err-number
returns-in_err-number c = rw c.from_residual.ensures (λ n k rest t. c.in_err-number.ensures (bytes_field n k) rest refl t)

pub returns-in_default : goal.returns-in_default
returns-in_default c =
    let tag = c.in_ok-number.ensures in
    λ n k rest t. no_value c.args.bytes.now c.in_ok-number.rest.now c.in_ok-number.number wire.Bytes c.in_default.field-0 tag.0 tag.1 tag.2 c.in_default.ensures.err (bytes_field n k) rest t

pub returns : goal.returns
returns c =
    let n = c.in_ok-number.number in
    let tag = c.in_ok-number.ensures in
    let at = c.in_ok-number.rest.now in
    takes_field c.args.bytes.now at c.in-Ok.rest.now (8 * n + wire_number wire.Bytes) wire.Bytes (bytes_field n c.in-Ok.content.now) tag.0 refl tag.1 tag.2 (takes_bytes at c.in-Ok.content.now c.in-Ok.rest.now c.in-Ok.ensures.ok)
