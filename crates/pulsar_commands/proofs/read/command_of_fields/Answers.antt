use Rattle.std.proofs.Common.{refl}
use Rattle.std.proofs.lemmas.Result.{err_from_is_err_and}
use Rattle.pb_fields.specs.Message.{WrongMessage}
use Rattle.pulsar_commands.specs.Table.{type_rows}
use Rattle.pulsar_commands.specs.Text.{HasType}
use Rattle.pulsar_commands.specs.Faults.{WrongOfType, WrongCommand, no_type, unknown_type, of_type}
use Rattle.pulsar_commands.proofs.Refused.{of_message_wrong, err_weaker}
use Rattle.pulsar_commands.proofs.read.command_of_fields.Goals as goal

pub returns-in_err-fields-clause-fault : goal.returns-in_err-fields-clause-fault
returns-in_err-fields-clause-fault c =
    let bytes = c.args.bytes.now in
    let p = err_from_is_err_and c.from_residual.result c.from_residual.ensures.1 in
    rw (p.1, p.2) (of_message_wrong (WrongMessage type_rows bytes) (WrongCommand bytes) _ (λ m h. no_type m h refl) c.in_err-fields.ensures.fault)

pub returns-in-Some-clause-fault : goal.returns-in-Some-clause-fault
returns-in-Some-clause-fault c =
    let bytes = c.args.bytes.now in
    let k = c.in-Some.kind in
    let fs = c.in_ok-fields.fields in
    let found = c.in_ok-fields.ensures.found in
    let last = rw (c.as_slice.ensures.fields, c.in-Some.ensures) at c.required_varint-number.ensures in
    let named : HasType fs k = record { message = found.1; is = last } in
    let wrong = rw c.as_slice-in-Some.ensures.fields at c.command_of_kind.ensures.fault in
    err_weaker (WrongOfType k fs) (WrongCommand bytes) c.command_of_kind.result (λ e h. of_type fs k found.0 named h) wrong

pub returns-clause-fault : goal.returns-clause-fault
returns-clause-fault c =
    let found = c.in_ok-fields.ensures.found in
    unknown_type c.in_ok-fields.fields c.required_varint-number.result found.0 found.1 (rw c.as_slice.ensures.fields at c.required_varint-number.ensures) c.in-None.ensures refl
