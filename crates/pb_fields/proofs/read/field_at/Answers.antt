use Rattle.std.proofs.lemmas.Result.{err_from_is_err_and}
use Rattle.pb_fields.specs.Faults.{BrokenValue, BrokenField, behind}
use Rattle.pb_fields.proofs.Fields.{ForFault-weaker, broken_tag, broken_value, takes_field}
use Rattle.pb_fields.proofs.read.field_at.Goals as goal

pub returns-in_err-tag-clause-err : goal.returns-in_err-tag-clause-err
returns-in_err-tag-clause-err c =
    let p = err_from_is_err_and c.from_residual.result c.from_residual.ensures.1 in
    rw (p.1, p.2) (broken_tag c.args.bytes.now _ c.requires c.in_err-tag.ensures.err)

pub returns-in_err-number-clause-err : goal.returns-in_err-number-clause-err
returns-in_err-number-clause-err c =
    let p = err_from_is_err_and c.from_residual-in_err-number.result c.from_residual-in_err-number.ensures.1 in
    rw (p.1, p.2) (behind c.in_ok-tag.ensures.ok (c.in_err-number.ensures.err c.in_ok-tag.rest.now))

pub returns-in_err-value-clause-err : goal.returns-in_err-value-clause-err
returns-in_err-value-clause-err c =
    let p = err_from_is_err_and c.from_residual-in_err-value.result c.from_residual-in_err-value.ensures.1 in
    let n = c.in_ok-number.ensures.ok in
    rw (p.1, p.2) (ForFault-weaker (BrokenValue c.in_ok-number.wire c.in_ok-tag.rest.now) (BrokenField c.args.bytes.now) _
    (λ why broken. broken_value c.args.bytes.now c.in_ok-tag.rest.now c.in_ok-tag.tag c.in_ok-number.number c.in_ok-number.wire why c.in_ok-tag.ensures.ok n.0 n.1 n.2 broken) c.in_err-value.ensures.err)

pub returns-clause-ok : goal.returns-clause-ok
returns-clause-ok c =
    let n = c.in_ok-number.ensures.ok in
    takes_field c.args.bytes.now c.in_ok-tag.rest.now c.in_ok-value.rest.now c.in_ok-tag.tag c.in_ok-number.wire _ c.in_ok-tag.ensures.ok n.0 n.1 n.2 c.in_ok-value.ensures.ok
