use Rattle.std.proofs.Common.{◌≡◌, ◌+◌, ◌++◌, ◌∷◌, [], take, sym, ap, ◌∙◌, eq-eqb, ne_eqb}
use Rattle.std.proofs.lemmas.List.{take_more}
use Rattle.pb_fields.specs.declared.field.Field.{Field}
use Rattle.pb_fields.specs.Message.{last_value}
use Rattle.pb_fields.proofs.Messages.{last_value-same, last_value-other}
use Rattle.pb_fields.proofs.Takes.{found, stays}
use Rattle.pb_fields.proofs.taken.last_place.Goals as goal
use Rattle.pb_fields.proofs.taken.last_place.Goals.{then-field-number, else-field-number}

pub loop-place-preserved : goal.loop-place-preserved
loop-place-preserved c =
    let fields = c.args.fields.now in
    let i = c.loop-place.place in
    let n = c.args.number in
    let f : Field = c.index-fields-place.result in
    let one_more : take (i + 1) fields ≡ take i fields ++ f ∷ [] = take_more fields i f c.loop-place-test.true ∙ ap (λ (x : Field). take i fields ++ x ∷ []) (sym c.index-fields-place.is) in
    elim c.if-field-number.branch [
      | then-field-number w ↦ rw w.last-is (found n i fields f c.loop-place-test.true c.index-fields-place.is w.if-field-number.true (ap (last_value n) one_more ∙ last_value-same n (take i fields) f (eq-eqb _ _ w.if-field-number.true)))
      | else-field-number w ↦ rw w.last-is (stays n (take i fields) (take (i + 1) fields) fields c.loop-place.last (ap (last_value n) one_more ∙ last_value-other n (take i fields) f (ne_eqb _ _ w.if-field-number.false)) c.loop-place.invariant)
    ]
