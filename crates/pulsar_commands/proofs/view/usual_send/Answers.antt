use Rattle.std.proofs.Common.{length, sym, ◌∙◌}
use Rattle.std.proofs.lemmas.Bool.{eqb-true}
use Rattle.std.proofs.lemmas.List.{nil_from_length}
use Rattle.pulsar_commands.proofs.UsualCommands.{send_is}
use Rattle.pulsar_commands.proofs.view.usual_send.Goals as goal

pub returns-then-is_empty : goal.returns-then-is_empty
returns-then-is_empty c =
    let one = c.in_ok-producer_id in
    let two = c.in_ok-sequence_id in
    let three = c.in_ok-num_messages in
    send_is c.args.content.now one.rest.now two.rest.now three.rest.now one.producer_id two.sequence_id three.num_messages one.ensures two.ensures three.ensures
    (nil_from_length three.rest.now (eqb-true (length three.rest.now) 0 (sym c.is_empty.ensures ∙ c.if-is_empty.true)))
