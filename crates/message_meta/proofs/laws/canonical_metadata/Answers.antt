use Rattle.message_meta.proofs.Meaning.{meta_text_one}
use Rattle.message_meta.proofs.Written.{canonical_is, known_ascend}
use Rattle.message_meta.proofs.laws.canonical_metadata.Goals as goal

pub returns : goal.returns
returns c = record {
  text = canonical_is;
  no_other = λ m n fits h. meta_text_one _ n m h (canonical_is m fits);
  ascending = known_ascend;
}
