use Rattle.std.proofs.lemmas.Result.{err_from_is_err_and}
use Rattle.pb_fields.proofs.Messages.{pb_wrong, fields_wrong}
use Rattle.pb_fields.proofs.message.message_fields.Goals as goal

pub returns-in_err-fields-clause-fault : goal.returns-in_err-fields-clause-fault
returns-in_err-fields-clause-fault c =
    let p = err_from_is_err_and c.from_residual.result c.from_residual.ensures.1 in
    rw (p.1, p.2) (pb_wrong c.args.rows.now c.args.bytes.now _ c.in_err-fields.ensures.fault)

pub returns-in_err-check_fields-clause-fault : goal.returns-in_err-check_fields-clause-fault
returns-in_err-check_fields-clause-fault c =
    let p = err_from_is_err_and c.from_residual-in_err-check_fields.result c.from_residual-in_err-check_fields.ensures.1 in
    let wrong = rw c.as_slice.ensures.fields at c.in_err-check_fields.ensures.wrong in
    rw (p.1, p.2) (fields_wrong c.args.rows.now c.args.bytes.now c.in_ok-fields.fields _ c.in_ok-fields.ensures.found wrong)
