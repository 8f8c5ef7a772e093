use Rattle.codec_laws.proofs.Commands.{command_answer}
use Rattle.codec_laws.proofs.codecs.law_command.Goals as goal

pub returns : goal.returns
returns c = command_answer
