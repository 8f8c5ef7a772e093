use Rattle.std.proofs.Common.{arith}
use Rattle.pulsar_commands.proofs.UsualIds.{id_field_length, id_put}
use Rattle.pulsar_commands.proofs.ids.put_id.Goals as goal

pub put_head-requires-clause-room : goal.put_head-requires-clause-room
put_head-requires-clause-room c =
    let long = id_field_length c.args.number c.id_size.result c.args.position c.id_size.ensures.size in
    omega (arith, long, c.requires.room)

pub put_varint-requires-clause-room : goal.put_varint-requires-clause-room
put_varint-requires-clause-room c =
    let long = id_field_length c.args.number c.id_size.result c.args.position c.id_size.ensures.size in
    omega (arith, long, c.requires.room, c.put_head.ensures.spare)

pub put_varint-requires-2-clause-room : goal.put_varint-requires-2-clause-room
put_varint-requires-2-clause-room c =
    let long = id_field_length c.args.number c.id_size.result c.args.position c.id_size.ensures.size in
    omega (arith, long, c.requires.room, c.put_head.ensures.spare, c.put_varint.ensures.text.spare)

pub returns-clause-text : goal.returns-clause-text
returns-clause-text c =
    id_put c.args.out.now c.put_head.new.self c.put_varint.new.self c.put_varint-2.new.self c.args.number c.id_size.result c.args.position c.put_head.ensures c.id_size.ensures.size c.put_varint.ensures.text c.put_varint-2.ensures.text

pub returns-clause-writable : goal.returns-clause-writable
returns-clause-writable c = record { ledger = c.put_varint.ensures.field.value; entry = c.put_varint-2.ensures.field.value }
