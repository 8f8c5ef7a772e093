use Rattle.marker_codec.proofs.Meaning.{marker_one}
use Rattle.marker_codec.proofs.Written.{canonical_is, ascend, ascend_within}
use Rattle.marker_codec.proofs.laws.canonical_marker.Goals as goal

pub returns : goal.returns
returns c = record {
  text = canonical_is;
  no_other = λ m n fits h. marker_one _ _ n m h (canonical_is m fits);
  ascending = ascend;
  ascending_within = ascend_within;
}
