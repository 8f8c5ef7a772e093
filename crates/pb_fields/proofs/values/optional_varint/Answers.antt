use Rattle.pb_fields.proofs.LastValues.{last_value-form, optional_varint-is}
use Rattle.pb_fields.proofs.values.optional_varint.Goals as goal

pub returns : goal.returns
returns c =
    let form = last_value-form c.args.rows.now c.args.number _ c.args.fields.now c.requires.row c.requires.message.fit in
    optional_varint-is _ c.last_varint.result form c.last_varint.ensures
