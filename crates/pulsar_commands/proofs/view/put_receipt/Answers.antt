use Rattle.std.proofs.Common.{arith}
use Rattle.pb_fields.proofs.Buffers.{put_three}
use Rattle.pulsar_commands.proofs.UsualCommands.{receipt_fields}
use Rattle.pulsar_commands.proofs.view.put_receipt.Goals as goal

pub put_varint-requires-clause-room : goal.put_varint-requires-clause-room
put_varint-requires-clause-room c = let long = receipt_fields c.args.producer_id c.args.sequence_id c.args.message_id in omega (arith, long, c.requires)

pub put_varint-requires-2-clause-room : goal.put_varint-requires-2-clause-room
put_varint-requires-2-clause-room c = let long = receipt_fields c.args.producer_id c.args.sequence_id c.args.message_id in omega (arith, long, c.requires, c.put_varint.ensures.text.spare)

pub put_id-requires-clause-room : goal.put_id-requires-clause-room
put_id-requires-clause-room c =
    let long = receipt_fields c.args.producer_id c.args.sequence_id c.args.message_id in
    omega (arith, long, c.requires, c.put_varint.ensures.text.spare, c.put_varint-2.ensures.text.spare)

pub returns-clause-text : goal.returns-clause-text
returns-clause-text c = put_three c.args.out.now c.put_varint.new.self c.put_varint-2.new.self c.put_id.new.out _ _ _ c.put_varint.ensures.text c.put_varint-2.ensures.text c.put_id.ensures.text

pub returns-clause-writable : goal.returns-clause-writable
returns-clause-writable c = (c.put_varint.ensures.field.value, (c.put_varint-2.ensures.field.value, (c.put_id.ensures.writable, tt)))
