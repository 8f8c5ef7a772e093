use Rattle.std.proofs.Common.{◌≡◌, ◌∷◌, [], ℕ, take, arith, refl, sym, subst, ◌∙◌}
use Rattle.std.proofs.lemmas.Grind.{common_steps}
use Rattle.std.proofs.lemmas.Result.{err_from_is_err_and}
use Rattle.pb_fields.specs.declared.field.Field.{Field}
use Rattle.pb_fields.specs.declared.message.Form.TheVariants as form
use Rattle.pb_fields.specs.Message.{Fits, IsWrong, IsMessage, IsWrongOrMemory}
use Rattle.pb_fields.specs.Embedded.{FitsWith, IsMessageWith, IsWrongWith, WrongFieldsWith, by_row, missing}
use Rattle.pb_fields.proofs.Nested.{IsWrongOrMemory-of}
use Rattle.pulsar_commands.specs.Table.{kind_number, required, rows_of, held_rows}
use Rattle.pulsar_commands.specs.Text.{IdRight, BodyRight, BodyWrong, IsLast}
use Rattle.pulsar_commands.proofs.Held.{kept_ok, kept_err, kept_other, last_more, all_more, other_fits, one_more, wrong_field, complete, lacking}
use Rattle.pulsar_commands.proofs.read.held_of.Goals.{then-field-number+in_ok-body_of, else-field-number}
use Rattle.pulsar_commands.proofs.read.held_of.Goals as goal

pub loop-field-init : goal.loop-field-init
loop-field-init c = (tt, refl)

pub returns-in_err-check_field-clause-fault : goal.returns-in_err-check_field-clause-fault
returns-in_err-check_field-clause-fault c =
    let p = err_from_is_err_and c.from_residual.result c.from_residual.ensures.1 in
    let k = c.args.kind in
    let f : Field = c.field-item.result in
    let wrong = subst (λ (n : ℕ). IsWrong (required n form.Message ∷ []) f c.in_err-check_field.field-0.0) c.number-number.ensures c.in_err-check_field.ensures.wrong in
    rw (p.1, p.2) (wrong_field k c.args.fields.now c.loop-field.field-index f _ c.loop-field-test.true c.field-item.is c.loop-field.invariant.0 (IsWrongOrMemory-of (IsWrongWith (BodyWrong k) (held_rows k) f) _ (by_row wrong)))

pub returns-in_err-body_of-clause-fault : goal.returns-in_err-body_of-clause-fault
returns-in_err-body_of-clause-fault c =
    let p = err_from_is_err_and c.from_residual-in_err-body_of.result c.from_residual-in_err-body_of.ensures.1 in
    rw (p.1, p.2) (wrong_field c.args.kind c.args.fields.now c.loop-field.field-index c.field-item.result _ c.loop-field-test.true c.field-item.is c.loop-field.invariant.0 c.in_err-body_of.ensures.fault)

pub loop-field-preserved : goal.loop-field-preserved
loop-field-preserved c =
    let k = c.args.kind in
    let fields = c.args.fields.now in
    let i = c.loop-field.field-index in
    let f : Field = c.field-item.result in
    let front = take i fields in
    let Right = FitsWith (BodyRight k) (held_rows k) in
    let more = one_more fields i f c.loop-field-test.true c.field-item.is in
    let fits = subst (λ (n : ℕ). Fits (required n form.Message ∷ []) f) c.number-number.ensures c.in_ok-check_field.ensures.right in
    elim c.if-field-number.branch [
      | then-field-number+in_ok-body_of w ↦
          let said = w.in_ok-body_of.ensures in
          let same = w.if-field-number.true ∙ c.number-number.ensures in
          rw (w.held-is, more) (all_more Right front f c.loop-field.invariant.0 said.right, record { message = said.message; ids = said.ids; last = last_more k front f _ same said.found })
      | else-field-number w ↦
          let other : f.number ≡ kind_number k → ⊥ = λ e. w.if-field-number.false (e ∙ sym c.number-number.ensures) in
          rw (w.held-is, more) (all_more Right front f c.loop-field.invariant.0 (other_fits k f other fits), kept_other k front f c.loop-field.held other c.loop-field.invariant.1)
    ]

pub returns-clause-right : goal.returns-clause-right
returns-clause-right c =
    let k = c.args.kind in
    let fields = c.args.fields.now in
    let whole : take c.loop-field.field-index fields ≡ fields = grind (arith, common_steps) in
    let known = rw whole at c.loop-field.invariant in
    rw c.ok_or.ensures.value (kept_ok (λ held. IsMessageWith (BodyRight k) (held_rows k) fields) k fields c.loop-field.held _ (λ held kept. record { fit = known.0; complete = complete k fields held kept.last }) known.1)

pub returns-clause-message : goal.returns-clause-message
returns-clause-message c =
    let k = c.args.kind in
    rw c.ok_or.ensures.value (kept_ok (IsMessage (rows_of k)) k (take c.loop-field.field-index c.args.fields.now) c.loop-field.held _ (λ held kept. kept.message) c.loop-field.invariant.1)

pub returns-clause-ids : goal.returns-clause-ids
returns-clause-ids c =
    let k = c.args.kind in
    rw c.ok_or.ensures.value (kept_ok (IsMessageWith IdRight (rows_of k)) k (take c.loop-field.field-index c.args.fields.now) c.loop-field.held _ (λ held kept. kept.ids) c.loop-field.invariant.1)

pub returns-clause-found : goal.returns-clause-found
returns-clause-found c =
    let k = c.args.kind in
    let fields = c.args.fields.now in
    let whole : take c.loop-field.field-index fields ≡ fields = grind (arith, common_steps) in
    let known = rw whole at c.loop-field.invariant in
    rw c.ok_or.ensures.value (kept_ok (IsLast k fields) k fields c.loop-field.held _ (λ held kept. kept.last) known.1)

pub returns-clause-fault : goal.returns-clause-fault
returns-clause-fault c =
    let k = c.args.kind in
    let fields = c.args.fields.now in
    let whole : take c.loop-field.field-index fields ≡ fields = grind (arith, common_steps) in
    let known = rw whole at c.loop-field.invariant in
    rw c.ok_or.ensures.value (kept_err (IsWrongOrMemory (WrongFieldsWith (BodyRight k) (BodyWrong k) (held_rows k) fields)) k fields c.loop-field.held _ (λ none. missing c.number-number.result known.0 (rw c.number-number.ensures (lacking k fields known.0 none)) refl) known.1)
