use Rattle.codec_laws.proofs.Standing.{value_answer}
use Rattle.codec_laws.proofs.machine.law_value.Goals as goal

pub returns : goal.returns
returns c = value_answer
