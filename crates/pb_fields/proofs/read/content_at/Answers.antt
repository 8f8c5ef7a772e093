use Rattle.std.proofs.Common.{arith}
use Rattle.std.proofs.lemmas.Result.{err_from_is_err_and}
use Rattle.pb_fields.specs.Faults.{size, content}
use Rattle.pb_fields.proofs.read.content_at.Goals as goal

pub returns-in_err-size-clause-err : goal.returns-in_err-size-clause-err
returns-in_err-size-clause-err c =
    let p = err_from_is_err_and c.from_residual.result c.from_residual.ensures.1 in
    rw (p.1, p.2) (size c.in_err-size.ensures.err)

pub returns-then-size-rest-clause-err : goal.returns-then-size-rest-clause-err
returns-then-size-rest-clause-err c = content c.in_ok-size.ensures.ok (omega (arith, c.if-size-rest.true))
