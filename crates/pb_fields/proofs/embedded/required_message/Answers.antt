use Rattle.std.proofs.Common.{refl}
use Rattle.pb_fields.proofs.LastValues.{last_value-required}
use Rattle.pb_fields.proofs.Nested.{last_held, held_right, message_there, message_of}
use Rattle.pb_fields.proofs.embedded.required_message.Goals as goal

pub unreachable-requires : goal.unreachable-requires
unreachable-requires g c =
    let Right = g.E.Embedded.right c.args.embedded.now in
    let rows = c.args.rows.now in
    let fields = c.args.fields.now in
    let held = last_held Right rows c.args.number _ fields c.requires.row refl c.requires.message in
    let none = message_there _ _ held c.in-None.ensures in
    last_value-required rows c.args.number _ fields c.requires.row refl (message_of Right rows fields c.requires.message) none

pub returns-clause-right : goal.returns-clause-right
returns-clause-right g c =
    let held = last_held (g.E.Embedded.right c.args.embedded.now) c.args.rows.now c.args.number _ c.args.fields.now c.requires.row refl c.requires.message in
    held_right _ _ c.in-Some.content.now held c.in-Some.ensures
