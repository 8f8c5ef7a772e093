use Rattle.std.proofs.Common.{◌≡◌, Option, true, refl, sym, ap, ◌∙◌}
use Rattle.std.specs.Prelude.{is_some}
use Rattle.std.specs.Option.{option_map}
use Rattle.std.proofs.lemmas.Result.{err_from_is_err_and}
use Rattle.pulsar_frames.specs.declared.layout.BodyParts.{BodyParts}
use Rattle.pulsar_frames.specs.Viewed.{layout, body_layout}
use Rattle.pulsar_frames.specs.Frames.{carried}
use Rattle.pulsar_frames.proofs.Reading.{command_wrong, body_wrong, some_layout, differ, agree}
use Rattle.pulsar_frames.proofs.read.frame_of.Goals as goal

pub returns-in_err-command-clause-err : goal.returns-in_err-command-clause-err
returns-in_err-command-clause-err c =
    let p = err_from_is_err_and c.from_residual.result c.from_residual.ensures.1 in
    rw (p.1, p.2) (command_wrong (layout c.args.parts) c.in_err-command.field-0.0 c.in_err-command.ensures.fault)

pub returns-then-is_some-carries_message-clause-err : goal.returns-then-is_some-carries_message-clause-err
returns-then-is_some-carries_message-clause-err c =
    carried c.in_ok-command.command c.in_ok-command.ensures.found
    (λ e. differ c.is_some.result c.carries_message.result c.if-is_some-carries_message.true (c.is_some.ensures ∙ sym (some_layout c.args.parts.body) ∙ e ∙ sym c.carries_message.ensures))
    refl

pub returns-in-Err-clause-err : goal.returns-in-Err-clause-err
returns-in-Err-clause-err c =
    let there : c.is_some.result ≡ true = c.is_some.ensures ∙ ap (λ (o : Option BodyParts). is_some o) c.in-Some.is in
    body_wrong (layout c.args.parts) c.in_ok-command.command (body_layout c.in-Some.body) c.in-Err.why c.in_ok-command.ensures.found
    (sym c.carries_message.ensures ∙ sym (agree c.is_some.result c.carries_message.result c.if-is_some-carries_message.false) ∙ there)
    (ap (λ (o : Option BodyParts). option_map body_layout o) c.in-Some.is)
    c.in-Err.ensures.err
