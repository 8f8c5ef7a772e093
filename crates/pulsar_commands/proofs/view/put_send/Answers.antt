use Rattle.std.proofs.Common.{arith}
use Rattle.pb_fields.proofs.Buffers.{put_three}
use Rattle.pulsar_commands.proofs.UsualCommands.{send_length}
use Rattle.pulsar_commands.proofs.view.put_send.Goals as goal

pub put_varint-requires-clause-room : goal.put_varint-requires-clause-room
put_varint-requires-clause-room c = let long = send_length c.args.producer_id c.args.sequence_id c.args.num_messages in omega (arith, long, c.requires)

pub put_varint-requires-2-clause-room : goal.put_varint-requires-2-clause-room
put_varint-requires-2-clause-room c = let long = send_length c.args.producer_id c.args.sequence_id c.args.num_messages in omega (arith, long, c.requires, c.put_varint.ensures.text.spare)

pub put_varint-requires-3-clause-room : goal.put_varint-requires-3-clause-room
put_varint-requires-3-clause-room c =
    let long = send_length c.args.producer_id c.args.sequence_id c.args.num_messages in
    omega (arith, long, c.requires, c.put_varint.ensures.text.spare, c.put_varint-2.ensures.text.spare)

pub returns-clause-text : goal.returns-clause-text
returns-clause-text c = put_three c.args.out.now c.put_varint.new.self c.put_varint-2.new.self c.put_varint-3.new.self _ _ _ c.put_varint.ensures.text c.put_varint-2.ensures.text c.put_varint-3.ensures.text

pub returns-clause-writable : goal.returns-clause-writable
returns-clause-writable c = (c.put_varint.ensures.field.value, (c.put_varint-2.ensures.field.value, (c.put_varint-3.ensures.field.value, tt)))
