use Rattle.byte_answers.proofs.Values.{value_is}
use Rattle.byte_answers.proofs.answer.named_answer.Goals as goal

pub returns-in-Ok : goal.returns-in-Ok
returns-in-Ok c =
    value_is c.args.names.now c.args.bytes.now c.in-Ok.value c.written_value-answer.result c.in-Ok.ensures.value c.written_value-answer.ensures
