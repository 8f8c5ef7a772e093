use Rattle.std.proofs.Common.{◌≡◌, ◌∷◌, ◌++◌, ℕ, suc, take, drop, ap, sym, refl, ◌∙◌, arith}
use Rattle.std.proofs.Math.Seq.{drop-cons}
use Rattle.std.proofs.lemmas.List.{take-append-drop}
use Rattle.std.proofs.lemmas.Result.{err_from_is_err_and}
use Rattle.std.specs.Prelude.{List}
use Rattle.std.specs.List.{AllByRecursion}
use Rattle.std.proofs.lemmas.Grind.{common_steps}
use Rattle.pb_fields.specs.declared.field.Field.{Field}
use Rattle.pb_fields.specs.declared.message.MessageFault.{MessageFault}
use Rattle.pb_fields.specs.Embedded.{FitsWith, IsWrongWith, field, missing}
use Rattle.pb_fields.proofs.Messages.{first_wrong}
use Rattle.pb_fields.proofs.Nested.{IsWrongOrMemory-weaker}
use Rattle.pb_fields.proofs.embedded.check_fields_with.Goals as goal

pub returns-in_err-check_field_with-clause-wrong : goal.returns-in_err-check_field_with-clause-wrong
returns-in_err-check_field_with-clause-wrong g c =
    let p = err_from_is_err_and c.from_residual.result c.from_residual.ensures.1 in
    let Right : ℕ → List ℕ → Type 0 = g.E.Embedded.right c.args.embedded.now in
    let Wrong : ℕ → List ℕ → MessageFault → Type 0 = g.E.Embedded.wrong c.args.embedded.now in
    let fields = c.args.fields.now in
    let i = c.loop-field.field-index in
    let f : Field = c.field-item.result in
    let parts : fields ≡ take i fields ++ f ∷ drop (suc i) fields = sym (take-append-drop i fields) ∙ ap (λ (xs : List Field). take i fields ++ xs) (drop-cons fields i f c.loop-field-test.true ∙ ap (λ (x : Field). x ∷ drop (suc i) fields) (sym c.field-item.is)) in
    rw (p.1, p.2) (rw parts (IsWrongOrMemory-weaker _ _ _ (λ e wrong. field (first_wrong (FitsWith Right c.args.rows.now) (IsWrongWith Wrong c.args.rows.now) (take i fields) f (drop (suc i) fields) e c.loop-field.invariant wrong)) c.in_err-check_field_with.ensures.wrong))

pub returns-in-Some-clause-wrong : goal.returns-in-Some-clause-wrong
returns-in-Some-clause-wrong g c =
    let Right : ℕ → List ℕ → Type 0 = g.E.Embedded.right c.args.embedded.now in
    let fit : AllByRecursion (FitsWith Right c.args.rows.now) c.args.fields.now = grind (arith, common_steps) in
    missing c.in-Some.number fit (sym c.in-Some.ensures) refl
