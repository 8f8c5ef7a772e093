use Rattle.std.proofs.Common.{refl}
use Rattle.pb_fields.proofs.LastValues.{last_value-form, last_value-required, text_there}
use Rattle.pb_fields.proofs.values.required_text.Goals as goal

pub unreachable-requires : goal.unreachable-requires
unreachable-requires c =
    let form = last_value-form c.args.rows.now c.args.number _ c.args.fields.now c.requires.row c.requires.message.fit in
    text_there _ (last_value-required c.args.rows.now c.args.number _ c.args.fields.now c.requires.row refl c.requires.message) form c.in-None.ensures
