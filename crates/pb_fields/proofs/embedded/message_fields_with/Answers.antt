use Rattle.std.proofs.Common.{ℕ}
use Rattle.std.proofs.lemmas.Result.{err_from_is_err_and}
use Rattle.std.specs.Prelude.{List}
use Rattle.pb_fields.specs.declared.message.MessageFault.{MessageFault}
use Rattle.pb_fields.specs.Embedded.{WrongFieldsWith, WrongMessageWith, wrong_fields}
use Rattle.pb_fields.proofs.Nested.{pb_wrong_with, IsWrongOrMemory-weaker}
use Rattle.pb_fields.proofs.embedded.message_fields_with.Goals as goal

pub returns-in_err-fields-clause-fault : goal.returns-in_err-fields-clause-fault
returns-in_err-fields-clause-fault g c =
    let p = err_from_is_err_and c.from_residual.result c.from_residual.ensures.1 in
    rw (p.1, p.2) (pb_wrong_with _ _ c.args.rows.now c.args.bytes.now _ c.in_err-fields.ensures.fault)

pub returns-in_err-check_fields_with-clause-fault : goal.returns-in_err-check_fields_with-clause-fault
returns-in_err-check_fields_with-clause-fault g c =
    let p = err_from_is_err_and c.from_residual-in_err-check_fields_with.result c.from_residual-in_err-check_fields_with.ensures.1 in
    let Right : ℕ → List ℕ → Type 0 = g.E.Embedded.right c.args.embedded.now in
    let Wrong : ℕ → List ℕ → MessageFault → Type 0 = g.E.Embedded.wrong c.args.embedded.now in
    let rows = c.args.rows.now in
    let fields = c.in_ok-fields.fields in
    let wrong = rw c.as_slice.ensures.fields at c.in_err-check_fields_with.ensures.wrong in
    rw (p.1, p.2) (IsWrongOrMemory-weaker (WrongFieldsWith Right Wrong rows fields) (WrongMessageWith Right Wrong rows c.args.bytes.now) _ (λ e h. wrong_fields fields c.in_ok-fields.ensures.found h) wrong)
