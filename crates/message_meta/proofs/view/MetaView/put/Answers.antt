use Rattle.std.proofs.Common.{arith}
use Rattle.std.specs.Option.{option_copied}
use Rattle.message_meta.proofs.Usual.{usual_put, usual_size, usual_writable}
use Rattle.message_meta.proofs.view.MetaView.put.Goals as goal

pub put_text-requires-clause-room : goal.put_text-requires-clause-room
put_text-requires-clause-room c =
    let v = c.args.self in
    let size = usual_size v.producer.now v.seq v.publish_time (option_copied v.replicated_from) (option_copied v.key) in
    omega (arith, size, c.requires)

pub put_varint-requires-clause-room : goal.put_varint-requires-clause-room
put_varint-requires-clause-room c =
    let v = c.args.self in
    let size = usual_size v.producer.now v.seq v.publish_time (option_copied v.replicated_from) (option_copied v.key) in
    omega (arith, size, c.requires, c.put_text.ensures.text.spare)

pub put_varint-requires-2-clause-room : goal.put_varint-requires-2-clause-room
put_varint-requires-2-clause-room c =
    let v = c.args.self in
    let size = usual_size v.producer.now v.seq v.publish_time (option_copied v.replicated_from) (option_copied v.key) in
    omega (arith, size, c.requires, c.put_text.ensures.text.spare, c.put_varint.ensures.text.spare)

pub put_optional-requires-clause-room : goal.put_optional-requires-clause-room
put_optional-requires-clause-room c =
    let v = c.args.self in
    let size = usual_size v.producer.now v.seq v.publish_time (option_copied v.replicated_from) (option_copied v.key) in
    omega (arith, size, c.requires, c.put_text.ensures.text.spare, c.put_varint.ensures.text.spare, c.put_varint-2.ensures.text.spare)

pub put_optional-requires-2-clause-room : goal.put_optional-requires-2-clause-room
put_optional-requires-2-clause-room c =
    let v = c.args.self in
    let size = usual_size v.producer.now v.seq v.publish_time (option_copied v.replicated_from) (option_copied v.key) in
    omega (arith, size, c.requires, c.put_text.ensures.text.spare, c.put_varint.ensures.text.spare, c.put_varint-2.ensures.text.spare, c.put_optional.ensures.text.spare)

pub returns-clause-text : goal.returns-clause-text
returns-clause-text c =
    let v = c.args.self in
    usual_put v.producer.now v.seq v.publish_time (option_copied v.replicated_from) (option_copied v.key) c.args.out.now c.put_text.new.out c.put_varint.new.self c.put_varint-2.new.self c.put_optional.new.out c.put_optional-2.new.out
    c.put_text.ensures.text c.put_varint.ensures.text c.put_varint-2.ensures.text c.put_optional.ensures.text c.put_optional-2.ensures.text

pub returns-clause-writable : goal.returns-clause-writable
returns-clause-writable c =
    let v = c.args.self in
    usual_writable v.producer.now v.seq v.publish_time (option_copied v.replicated_from) (option_copied v.key)
    c.put_text.ensures.field c.put_varint.ensures.field c.put_varint-2.ensures.field c.put_optional.ensures.fields c.put_optional-2.ensures.fields c.put_text.ensures.utf8 c.put_optional.ensures.utf8 c.put_optional-2.ensures.utf8
