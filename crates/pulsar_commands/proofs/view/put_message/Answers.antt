use Rattle.std.proofs.Common.{arith}
use Rattle.pb_fields.proofs.Buffers.{put_two}
use Rattle.pulsar_commands.proofs.UsualCommands.{message_fields}
use Rattle.pulsar_commands.proofs.view.put_message.Goals as goal

pub put_varint-requires-clause-room : goal.put_varint-requires-clause-room
put_varint-requires-clause-room c = let long = message_fields c.args.consumer_id c.args.message_id in omega (arith, long, c.requires)

pub put_id-requires-clause-room : goal.put_id-requires-clause-room
put_id-requires-clause-room c = let long = message_fields c.args.consumer_id c.args.message_id in omega (arith, long, c.requires, c.put_varint.ensures.text.spare)

pub returns-clause-text : goal.returns-clause-text
returns-clause-text c = put_two c.args.out.now c.put_varint.new.self c.put_id.new.out _ _ c.put_varint.ensures.text c.put_id.ensures.text

pub returns-clause-writable : goal.returns-clause-writable
returns-clause-writable c = (c.put_varint.ensures.field.value, (c.put_id.ensures.writable, tt))
