use Rattle.codec_laws.proofs.Fields.{fields_answer}
use Rattle.codec_laws.proofs.codecs.law_fields.Goals as goal

pub returns : goal.returns
returns c = fields_answer
