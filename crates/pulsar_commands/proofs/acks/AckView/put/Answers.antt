use Rattle.std.proofs.Common.{◌≡◌, ◌∙◌, arith}
use Rattle.pulsar_commands.specs.Usual.{ack_viewed}
use Rattle.pulsar_commands.proofs.UsualAcks.{ack_writable, body_length, body_put}
use Rattle.pulsar_commands.proofs.UsualCommands.{command_put, pieces_length}
use Rattle.pulsar_commands.proofs.acks.AckView.put.Goals as goal

pub put_varint-requires-clause-room : goal.put_varint-requires-clause-room
put_varint-requires-clause-room c =
    let typed : c.from.result ≡ 10 = c.from.ensures ∙ c.number-number.ensures in
    rw typed (omega (arith, pieces_length (ack_viewed c.args.self), c.requires.room))

pub put_head-requires-clause-number : goal.put_head-requires-clause-number
put_head-requires-clause-number c = record { above_zero = omega (arith, c.number-number.ensures); below = omega (arith, c.number-number.ensures) }

pub put_head-requires-clause-room : goal.put_head-requires-clause-room
put_head-requires-clause-room c =
    let named : c.number-number.result ≡ 10 = c.number-number.ensures in
    let typed : c.from.result ≡ 10 = c.from.ensures ∙ named in
    let put = rw typed at c.put_varint.ensures.text in
    rw (named, c.requires.body) (omega (arith, pieces_length (ack_viewed c.args.self), c.requires.room, put.spare))

pub put_varint-requires-2-clause-room : goal.put_varint-requires-2-clause-room
put_varint-requires-2-clause-room c =
    let v = c.args.self in
    let named : c.number-number.result ≡ 10 = c.number-number.ensures in
    let typed : c.from.result ≡ 10 = c.from.ensures ∙ named in
    let put = rw typed at c.put_varint.ensures.text in
    let head = rw (named, c.requires.body) at c.put_head.ensures in
    let inner = body_length v.consumer_id v.ack_type v.message_id.now in
    omega (arith, pieces_length (ack_viewed v), c.requires.room, put.spare, head.spare, inner)

pub put_varint-requires-3-clause-room : goal.put_varint-requires-3-clause-room
put_varint-requires-3-clause-room c =
    let v = c.args.self in
    let named : c.number-number.result ≡ 10 = c.number-number.ensures in
    let typed : c.from.result ≡ 10 = c.from.ensures ∙ named in
    let put = rw typed at c.put_varint.ensures.text in
    let head = rw (named, c.requires.body) at c.put_head.ensures in
    let inner = body_length v.consumer_id v.ack_type v.message_id.now in
    rw c.ack_type_number.ensures (omega (arith, pieces_length (ack_viewed v), c.requires.room, put.spare, head.spare, inner, c.put_varint-2.ensures.text.spare))

pub put_ids-requires : goal.put_ids-requires
put_ids-requires c =
    let v = c.args.self in
    let named : c.number-number.result ≡ 10 = c.number-number.ensures in
    let typed : c.from.result ≡ 10 = c.from.ensures ∙ named in
    let put = rw typed at c.put_varint.ensures.text in
    let head = rw (named, c.requires.body) at c.put_head.ensures in
    let kind = rw c.ack_type_number.ensures at c.put_varint-3.ensures.text in
    let inner = body_length v.consumer_id v.ack_type v.message_id.now in
    omega (arith, pieces_length (ack_viewed v), c.requires.room, put.spare, head.spare, inner, c.put_varint-2.ensures.text.spare, kind.spare)

pub returns-clause-text : goal.returns-clause-text
returns-clause-text c =
    let v = c.args.self in
    let body = body_put c.put_head.new.self c.put_varint-2.new.self c.put_varint-3.new.self c.put_ids.new.out v.consumer_id c.ack_type_number.result v.ack_type v.message_id.now c.put_varint-2.ensures.text c.put_varint-3.ensures.text c.ack_type_number.ensures c.put_ids.ensures.text in
    command_put c.args.out.now c.put_varint.new.self c.put_head.new.self c.put_ids.new.out (ack_viewed v) c.number-number.result c.from.result c.args.body c.put_varint.ensures.text c.from.ensures c.put_head.ensures c.number-number.ensures c.requires.body body

pub returns-clause-writable : goal.returns-clause-writable
returns-clause-writable c =
    let v = c.args.self in
    ack_writable v.consumer_id v.ack_type v.message_id.now c.args.body c.put_varint-2.ensures.field.value c.put_ids.ensures.writable c.requires.body c.requires.few
