use Rattle.std.proofs.Common.{length}
use Rattle.pb_fields.specs.Canonical.{head_text}
use Rattle.pb_fields.proofs.Buffers.{content_put, content_room, room_first, room_then}
use Rattle.pb_fields.proofs.buffer.Buffer.put_bytes.Goals as goal

pub put_head-requires-clause-room : goal.put_head-requires-clause-room
put_head-requires-clause-room c =
    let content = c.args.content.now in
    room_first (head_text c.args.number (length content)) content c.args.self.now.spare (content_room c.args.number c.args.self.now.spare content c.requires.room)

pub put-requires : goal.put-requires
put-requires c =
    let content = c.args.content.now in
    room_then c.args.self.now c.put_head.new.self (head_text c.args.number (length content)) content c.put_head.ensures (content_room c.args.number c.args.self.now.spare content c.requires.room)

pub returns-clause-text : goal.returns-clause-text
returns-clause-text c = content_put c.args.self.now c.put_head.new.self c.put.new.self c.args.number c.args.content.now c.put_head.ensures c.put.ensures
