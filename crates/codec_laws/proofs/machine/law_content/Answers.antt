use Rattle.codec_laws.proofs.Contained.{content_answer}
use Rattle.codec_laws.proofs.machine.law_content.Goals as goal

pub returns : goal.returns
returns c = content_answer
