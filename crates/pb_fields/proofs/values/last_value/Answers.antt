use Rattle.std.proofs.Common.{◌≡◌, ◌+◌, ◌++◌, ◌∷◌, [], take, sym, ap, ◌∙◌, eq-eqb, ne_eqb}
use Rattle.std.proofs.lemmas.List.{take_more}
use Rattle.pb_fields.specs.declared.field.Field.{Field}
use Rattle.pb_fields.proofs.Messages.{last_value-same, last_value-other}
use Rattle.pb_fields.proofs.values.last_value.Goals as goal
use Rattle.pb_fields.proofs.values.last_value.Goals.{then-field-number, else-field-number}

pub loop-field-preserved : goal.loop-field-preserved
loop-field-preserved c =
    let fields = c.args.fields.now in
    let i = c.loop-field.field-index in
    let f : Field = c.field-item.result in
    let one_more : take (i + 1) fields ≡ take i fields ++ f ∷ [] = take_more fields i f c.loop-field-test.true ∙ ap (λ (x : Field). take i fields ++ x ∷ []) (sym c.field-item.is) in
    elim c.if-field-number.branch [
      | then-field-number w ↦ rw (w.last-is, one_more) (sym (last_value-same c.args.number (take i fields) f (eq-eqb _ _ w.if-field-number.true)))
      | else-field-number w ↦ rw (w.last-is, one_more) (c.loop-field.invariant ∙ sym (last_value-other c.args.number (take i fields) f (ne_eqb _ _ w.if-field-number.false)))
    ]
