use Rattle.pb_fields.proofs.Messages.{message_one, message_sound}
use Rattle.message_meta.specs.Table.{rows}
use Rattle.message_meta.proofs.Meaning.{meta_text_one}
use Rattle.message_meta.proofs.laws.one_meaning.Goals as goal

pub returns : goal.returns
returns c = record {
  text = meta_text_one;
  fault = λ bytes a b h k. message_one rows bytes a b h k;
  either = λ bytes m e h k. message_sound rows bytes h.fields e h.text h.means.message k;
}
