use Rattle.codec_laws.proofs.Metas.{meta_answer}
use Rattle.codec_laws.proofs.codecs.law_metadata.Goals as goal

pub returns : goal.returns
returns c = meta_answer
