use Rattle.pb_fields.proofs.Unique.{text_one}
use Rattle.pb_fields.proofs.Written.{text-is, varint-is, varint-short}
use Rattle.pb_fields.proofs.laws.canonical_text.Goals as goal

pub returns : goal.returns
returns c = record {
  text = text-is;
  no_other = λ fs gs fits h. text_one h (text-is fs fits);
  varint = varint-is;
  shortest = varint-short;
}
