use Rattle.std.proofs.Common.{ℕ}
use Rattle.std.proofs.lemmas.Result.{err_from_is_err_and}
use Rattle.std.specs.Prelude.{List}
use Rattle.pb_fields.specs.declared.message.MessageFault.{MessageFault}
use Rattle.pb_fields.specs.Embedded.{IsWrongWith, by_row, within}
use Rattle.pb_fields.proofs.Nested.{IsWrongOrMemory-of, err_weaker}
use Rattle.pb_fields.proofs.embedded.check_field_with.Goals as goal

pub returns-in_err-check_field-clause-wrong : goal.returns-in_err-check_field-clause-wrong
returns-in_err-check_field-clause-wrong g c =
    let p = err_from_is_err_and c.from_residual.result c.from_residual.ensures.1 in
    let Wrong : ℕ → List ℕ → MessageFault → Type 0 = g.E.Embedded.wrong c.args.embedded.now in
    rw (p.1, p.2) (IsWrongOrMemory-of (IsWrongWith Wrong c.args.rows.now c.args.field.now) _ (by_row c.in_err-check_field.ensures.wrong))

pub returns-in-Some-clause-wrong : goal.returns-in-Some-clause-wrong
returns-in-Some-clause-wrong g c =
    let Wrong : ℕ → List ℕ → MessageFault → Type 0 = g.E.Embedded.wrong c.args.embedded.now in
    let field = c.args.field.now in
    err_weaker (Wrong field.number c.in-Some.content.now) (IsWrongWith Wrong c.args.rows.now field) c.judge.result (λ e wrong. within c.in-Some.content.now c.in-Some.ensures wrong) c.judge.ensures.wrong

pub returns-in-None-clause-right : goal.returns-in-None-clause-right
returns-in-None-clause-right g c = record { fits = c.in_ok-check_field.ensures.right; holds = λ content h. absurd (c.in-None.ensures content h) }
