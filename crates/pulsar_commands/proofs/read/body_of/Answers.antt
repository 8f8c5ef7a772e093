use Rattle.pb_fields.specs.Embedded.{IsWrongWith, within}
use Rattle.pb_fields.proofs.Nested.{err_weaker}
use Rattle.pulsar_commands.specs.Table.{held_rows}
use Rattle.pulsar_commands.specs.Text.{BodyWrong}
use Rattle.pulsar_commands.proofs.Held.{content_there, content_held}
use Rattle.pulsar_commands.proofs.read.body_of.Goals as goal

pub unreachable-requires : goal.unreachable-requires
unreachable-requires c = content_there c.args.kind c.args.field.now c.requires.number c.requires.fits c.in-None.ensures

pub returns-clause-fault : goal.returns-clause-fault
returns-clause-fault c =
    let k = c.args.kind in
    let f = c.args.field.now in
    let content = c.in-Some.content.now in
    err_weaker (BodyWrong k f.number content) (IsWrongWith (BodyWrong k) (held_rows k) f) c.read_message_with.result (λ e wrong. within content (content_held k f content c.requires.number c.in-Some.ensures) wrong) (rw c.rows.ensures at c.read_message_with.ensures.fault)
