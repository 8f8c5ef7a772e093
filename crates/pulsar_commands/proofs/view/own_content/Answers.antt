use Rattle.std.proofs.Common.{length, sym, ◌∙◌}
use Rattle.std.proofs.lemmas.Bool.{eqb-true}
use Rattle.std.proofs.lemmas.List.{nil_from_length}
use Rattle.pb_fields.specs.Field.{bytes_field}
use Rattle.pulsar_commands.proofs.UsualCommands.{alone}
use Rattle.pulsar_commands.proofs.view.own_content.Goals as goal

pub returns-then-is_empty : goal.returns-then-is_empty
returns-then-is_empty c =
    let one = c.in_ok-content in
    alone c.args.bytes.now one.rest.now (bytes_field c.args.number one.content.now) one.ensures (nil_from_length one.rest.now (eqb-true (length one.rest.now) 0 (sym c.is_empty.ensures ∙ c.if-is_empty.true)))
