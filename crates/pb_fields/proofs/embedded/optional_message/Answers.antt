use Rattle.std.proofs.Common.{refl}
use Rattle.pb_fields.proofs.Nested.{last_held, optional_content, optional_right}
use Rattle.pb_fields.proofs.embedded.optional_message.Goals as goal

pub returns-clause-content : goal.returns-clause-content
returns-clause-content g c =
    let held = last_held (g.E.Embedded.right c.args.embedded.now) c.args.rows.now c.args.number _ c.args.fields.now c.requires.row refl c.requires.message in
    optional_content _ _ c.last_content.result held c.last_content.ensures

pub returns-clause-right : goal.returns-clause-right
returns-clause-right g c =
    let held = last_held (g.E.Embedded.right c.args.embedded.now) c.args.rows.now c.args.number _ c.args.fields.now c.requires.row refl c.requires.message in
    optional_right _ _ c.last_content.result held c.last_content.ensures
