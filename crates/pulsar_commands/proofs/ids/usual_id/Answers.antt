use Rattle.std.proofs.Common.{length, sym, ◌∙◌}
use Rattle.std.proofs.lemmas.Bool.{eqb-true}
use Rattle.std.proofs.lemmas.List.{nil_from_length}
use Rattle.pulsar_commands.proofs.UsualIds.{usual_id_right, usual_id_said}
use Rattle.pulsar_commands.proofs.ids.usual_id.Goals as goal

pub returns-then-is_empty-clause-right : goal.returns-then-is_empty-clause-right
returns-then-is_empty-clause-right c =
    let one = c.in_ok-ledger in
    let two = c.in_ok-entry in
    usual_id_right c.args.content.now one.rest.now two.rest.now one.ledger two.entry one.ensures two.ensures (nil_from_length two.rest.now (eqb-true (length two.rest.now) 0 (sym c.is_empty.ensures ∙ c.if-is_empty.true)))

pub returns-then-is_empty-clause-said : goal.returns-then-is_empty-clause-said
returns-then-is_empty-clause-said c =
    let one = c.in_ok-ledger in
    let two = c.in_ok-entry in
    usual_id_said c.args.content.now one.rest.now two.rest.now (record { ledger = one.ledger; entry = two.entry }) one.ensures two.ensures (nil_from_length two.rest.now (eqb-true (length two.rest.now) 0 (sym c.is_empty.ensures ∙ c.if-is_empty.true)))
