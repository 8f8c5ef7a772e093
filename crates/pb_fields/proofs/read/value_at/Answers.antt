use Rattle.std.proofs.lemmas.Result.{err_from_is_err_and}
use Rattle.pb_fields.specs.Faults.{varint, fixed64, fixed32}
use Rattle.pb_fields.proofs.ValueTexts.{takes_varint, takes_fixed64, takes_fixed32, takes_bytes}
use Rattle.pb_fields.proofs.read.value_at.Goals as goal

pub returns-in_err-number-in-Varint-clause-err : goal.returns-in_err-number-in-Varint-clause-err
returns-in_err-number-in-Varint-clause-err c =
    let p = err_from_is_err_and c.from_residual.result c.from_residual.ensures.1 in
    rw (p.1, p.2, c.in-Varint.is) (varint c.in_err-number-in-Varint.ensures.err)

pub returns-in_err-number-in-Fixed64-clause-err : goal.returns-in_err-number-in-Fixed64-clause-err
returns-in_err-number-in-Fixed64-clause-err c =
    let p = err_from_is_err_and c.from_residual-in_err-number-in-Fixed64.result c.from_residual-in_err-number-in-Fixed64.ensures.1 in
    rw (p.1, p.2, c.in-Fixed64.is, c.in_err-number-in-Fixed64.ensures.err.0) (fixed64 c.in_err-number-in-Fixed64.ensures.err.1)

pub returns-in_err-number-in-Fixed32-clause-err : goal.returns-in_err-number-in-Fixed32-clause-err
returns-in_err-number-in-Fixed32-clause-err c =
    let p = err_from_is_err_and c.from_residual-in_err-number-in-Fixed32.result c.from_residual-in_err-number-in-Fixed32.ensures.1 in
    rw (p.1, p.2, c.in-Fixed32.is, c.in_err-number-in-Fixed32.ensures.err.0) (fixed32 c.in_err-number-in-Fixed32.ensures.err.1)

pub returns-in_ok-number-in-Varint-clause-ok : goal.returns-in_ok-number-in-Varint-clause-ok
returns-in_ok-number-in-Varint-clause-ok c = rw c.in-Varint.is (takes_varint c.args.bytes.now _ _ c.in_ok-number-in-Varint.ensures.ok)

pub returns-in_ok-number-in-Fixed64-clause-ok : goal.returns-in_ok-number-in-Fixed64-clause-ok
returns-in_ok-number-in-Fixed64-clause-ok c = rw c.in-Fixed64.is (takes_fixed64 c.args.bytes.now _ _ c.in_ok-number-in-Fixed64.ensures.ok.0 c.in_ok-number-in-Fixed64.ensures.ok.1)

pub returns-in_ok-from_slice-in-Bytes-clause-ok : goal.returns-in_ok-from_slice-in-Bytes-clause-ok
returns-in_ok-from_slice-in-Bytes-clause-ok c = rw (c.in-Bytes.is, c.in_ok-from_slice-in-Bytes.ensures) (takes_bytes c.args.bytes.now _ _ c.in_ok-content-in-Bytes.ensures.ok)

pub returns-in_ok-number-in-Fixed32-clause-ok : goal.returns-in_ok-number-in-Fixed32-clause-ok
returns-in_ok-number-in-Fixed32-clause-ok c = rw c.in-Fixed32.is (takes_fixed32 c.args.bytes.now _ _ c.in_ok-number-in-Fixed32.ensures.ok.0 c.in_ok-number-in-Fixed32.ensures.ok.1)
