use Rattle.std.proofs.Common.{◌≡◌, ◌-◌, ◌∙◌, ap, arith, length}
use Rattle.pulsar_commands.specs.declared.kind.Kind.{Kind}
use Rattle.pulsar_commands.specs.Canonical.{body_text}
use Rattle.pulsar_commands.specs.Parts.{kind_of}
use Rattle.pulsar_commands.specs.Table.{kind_number}
use Rattle.pulsar_commands.specs.Usual.{command_viewed}
use Rattle.pulsar_commands.proofs.UsualCommands.{body_left, command_put, command_writable, pieces_length, viewed_number}
use Rattle.pulsar_commands.proofs.view.CommandView.put.Goals as goal

pub put_varint-requires-clause-room : goal.put_varint-requires-clause-room
put_varint-requires-clause-room c =
    let typed : c.from.result ≡ kind_number (kind_of (command_viewed c.args.self)) = c.from.ensures ∙ c.number-number.ensures ∙ ap (λ (k : Kind). kind_number k) c.kind.ensures in
    let long = pieces_length (command_viewed c.args.self) in
    rw typed (omega (arith, long, c.requires.size, c.requires.room))

pub overflow_sub-size : goal.overflow_sub-size
overflow_sub-size c = let left = body_left c.args.self c.args.size c.requires.size c.requires.few in omega (arith, left)

pub put_head-requires-clause-number : goal.put_head-requires-clause-number
put_head-requires-clause-number c = viewed_number c.args.self c.number-number.result (c.number-number.ensures ∙ ap (λ (k : Kind). kind_number k) c.kind.ensures)

pub put_head-requires-clause-room : goal.put_head-requires-clause-room
put_head-requires-clause-room c =
    let named : c.number-number.result ≡ kind_number (kind_of (command_viewed c.args.self)) = c.number-number.ensures ∙ ap (λ (k : Kind). kind_number k) c.kind.ensures in
    let typed : c.from.result ≡ kind_number (kind_of (command_viewed c.args.self)) = c.from.ensures ∙ named in
    let long = pieces_length (command_viewed c.args.self) in
    let left : c.args.size - 4 ≡ length (body_text (command_viewed c.args.self)) = omega (arith, body_left c.args.self c.args.size c.requires.size c.requires.few) in
    let put = rw typed at c.put_varint.ensures.text in
    rw (named, left) (omega (arith, long, c.requires.size, c.requires.room, put.spare))

pub put_body-requires : goal.put_body-requires
put_body-requires c =
    let named : c.number-number.result ≡ kind_number (kind_of (command_viewed c.args.self)) = c.number-number.ensures ∙ ap (λ (k : Kind). kind_number k) c.kind.ensures in
    let typed : c.from.result ≡ kind_number (kind_of (command_viewed c.args.self)) = c.from.ensures ∙ named in
    let long = pieces_length (command_viewed c.args.self) in
    let left : c.args.size - 4 ≡ length (body_text (command_viewed c.args.self)) = omega (arith, body_left c.args.self c.args.size c.requires.size c.requires.few) in
    let put = rw typed at c.put_varint.ensures.text in
    let head = rw (named, left) at c.put_head.ensures in
    omega (arith, long, c.requires.size, c.requires.room, put.spare, head.spare)

pub returns-clause-text : goal.returns-clause-text
returns-clause-text c =
    let named : c.number-number.result ≡ kind_number (kind_of (command_viewed c.args.self)) = c.number-number.ensures ∙ ap (λ (k : Kind). kind_number k) c.kind.ensures in
    let left : c.args.size - 4 ≡ length (body_text (command_viewed c.args.self)) = omega (arith, body_left c.args.self c.args.size c.requires.size c.requires.few) in
    command_put c.args.out.now c.put_varint.new.self c.put_head.new.self c.put_body.new.out (command_viewed c.args.self) c.number-number.result c.from.result (c.args.size - 4) c.put_varint.ensures.text c.from.ensures c.put_head.ensures named left c.put_body.ensures.text

pub returns-clause-writable : goal.returns-clause-writable
returns-clause-writable c = command_writable c.args.self c.args.size c.requires.size c.requires.few c.put_body.ensures.writable
