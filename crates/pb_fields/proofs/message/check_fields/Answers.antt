use Rattle.std.proofs.Common.{◌≡◌, ◌∷◌, ◌++◌, suc, take, drop, ap, sym, refl, ◌∙◌, arith}
use Rattle.std.proofs.Math.Seq.{drop-cons}
use Rattle.std.proofs.lemmas.List.{take-append-drop}
use Rattle.std.proofs.lemmas.Result.{err_from_is_err_and}
use Rattle.std.specs.Prelude.{List}
use Rattle.std.specs.List.{AllByRecursion}
use Rattle.std.proofs.lemmas.Grind.{common_steps}
use Rattle.pb_fields.specs.declared.field.Field.{Field}
use Rattle.pb_fields.specs.Message.{Fits, IsWrong, field, missing}
use Rattle.pb_fields.proofs.Messages.{first_wrong}
use Rattle.pb_fields.proofs.message.check_fields.Goals as goal

pub returns-in_err-check_field-clause-wrong : goal.returns-in_err-check_field-clause-wrong
returns-in_err-check_field-clause-wrong c =
    let p = err_from_is_err_and c.from_residual.result c.from_residual.ensures.1 in
    let fields = c.args.fields.now in
    let i = c.loop-field.field-index in
    let f : Field = c.field-item.result in
    let parts : fields ≡ take i fields ++ f ∷ drop (suc i) fields = sym (take-append-drop i fields) ∙ ap (λ (xs : List Field). take i fields ++ xs) (drop-cons fields i f c.loop-field-test.true ∙ ap (λ (x : Field). x ∷ drop (suc i) fields) (sym c.field-item.is)) in
    rw (p.1, p.2) (rw parts (field (first_wrong (Fits c.args.rows.now) (IsWrong c.args.rows.now) (take i fields) f (drop (suc i) fields) _ c.loop-field.invariant c.in_err-check_field.ensures.wrong)))

pub returns-in-Some-clause-wrong : goal.returns-in-Some-clause-wrong
returns-in-Some-clause-wrong c =
    let fit : AllByRecursion (Fits c.args.rows.now) c.args.fields.now = grind (arith, common_steps) in
    missing c.in-Some.number fit (sym c.in-Some.ensures) refl
