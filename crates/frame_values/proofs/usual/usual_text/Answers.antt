use Rattle.std.proofs.Common.{sym, ◌∙◌}
use Rattle.std.proofs.lemmas.Result.{IfOk-weaker}
use Rattle.std.specs.Prelude.{IfSome}
use Rattle.pulsar_commands.specs.Usual.{command_viewed}
use Rattle.pulsar_frames.specs.Usual.{IsUsualText, carrying_viewed}
use Rattle.frame_values.specs.Coded.{IsCarriedText}
use Rattle.frame_values.proofs.UsualValues.{carried_is}
use Rattle.frame_values.proofs.usual.usual_text.Goals as goal

pub returns-then-is_usual : goal.returns-then-is_usual
returns-then-is_usual c =
    let v = c.args.command in
    let source = c.args.source.now in
    let e = c.args.entry.now in
    let m = c.message_of.result in
    IfOk-weaker c.write_usual_message.result (λ o. IfSome o (IsUsualText (carrying_viewed v m))) (λ o. IfSome o (IsCarriedText c.args.names.now (command_viewed v) source e))
    (λ o text. carried_is c.args.names.now v source e m o (sym c.is_usual.ensures ∙ c.if-is_usual.true) c.message_of.ensures text) c.write_usual_message.ensures
