use Rattle.std.proofs.Common.{◌≤◌, ◌<◌, length, arith}
use Rattle.std.specs.Option.{option_copied}
use Rattle.broker_plans.specs.Usual.{text_length}
use Rattle.broker_plans.proofs.UsualMessages.{small_size}
use Rattle.broker_plans.proofs.usual.is_small.Goals as goal

pub returns-clause-small : goal.returns-clause-small
returns-clause-small c =
    let m = c.args.message in
    let producer : length m.meta.producer.now < 128 = omega (arith, c.if-message-ge-SHORT.false) in
    let key : text_length (option_copied m.meta.key) < 128 = omega (arith, c.if-text_len-ge-SHORT.false, c.text_len.ensures) in
    let payload : length m.payload.now ≤ 5242368 = omega (arith, c.if-message.false) in
    λ is. small_size m producer key payload
