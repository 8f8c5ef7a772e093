use Rattle.codec_laws.proofs.Messages.{plain_answer}
use Rattle.codec_laws.proofs.codecs.law_message.Goals as goal

pub returns : goal.returns
returns c = plain_answer
