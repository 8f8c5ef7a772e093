use Rattle.pb_fields.specs.declared.field.Value.{Value}
use Rattle.pb_fields.specs.declared.message.Form.TheVariants as form
use Rattle.pb_fields.specs.Message.{HasForm}
use Rattle.pb_fields.proofs.LastValues.{values-at, not_text}
use Rattle.message_meta.proofs.read.texts.Goals as goal

pub unreachable-requires : goal.unreachable-requires
unreachable-requires c =
    let text = values-at (λ (v : Value). HasForm v form.Text) c.args.number c.loop-field.field-index c.args.fields.now c.field-item.result c.loop-field-test.true c.field-item.is c.if-field-number.true c.requires in
    not_text c.field-item.result.value text c.in-None.ensures
