use Rattle.pulsar_frames.specs.Canonical.{frame_text}
use Rattle.pulsar_frames.proofs.OneFrame.{text_one}
use Rattle.pulsar_frames.proofs.Written.{canonical_is}
use Rattle.pulsar_frames.proofs.laws.canonical_frame.Goals as goal

pub returns : goal.returns
returns c = record {
  text = canonical_is;
  no_other = λ f g fits h. text_one (frame_text f) g f h (canonical_is f fits);
}
