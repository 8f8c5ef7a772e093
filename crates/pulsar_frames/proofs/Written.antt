-- The canonical text of a frame is a text of it.
use Rattle.std.proofs.Common.{◌≡◌, Option, Some, None, refl, ◌∙◌}
use Rattle.std.specs.Prelude.{IfSome, is_some}
use Rattle.std.specs.Option.{option_map}
use Rattle.message_meta.specs.Canonical.{IsMetadata}
use Rattle.message_meta.proofs.Written as meta
use Rattle.pulsar_frames.specs.declared.frame.Body.{Body}
use Rattle.pulsar_frames.specs.declared.frame.Frame.{Frame}
use Rattle.pulsar_frames.specs.Frames.{MeansBody, IsFrameText}
use Rattle.pulsar_frames.specs.Canonical.{canonical_body, canonical_layout, frame_text, IsWritableFrame}
use Rattle.pulsar_frames.proofs.Commands.{command_canonical}

body_is : (o : Option Body) → IfSome o (λ b. IsMetadata b.meta) → MeansBody (option_map canonical_body o) o
body_is None h = tt
body_is (Some b) h = (meta.canonical_is b.meta h, refl)

same_there : (o : Option Body) → is_some (option_map canonical_body o) ≡ is_some o
same_there None = refl
same_there (Some b) = refl

pub canonical_is : (f : Frame) → IsWritableFrame f → IsFrameText (frame_text f) f
canonical_is f h = record {
  layout = canonical_layout f;
  text = refl;
  fits = h.fits;
  means = record { command = command_canonical f.command h.command; carried = same_there f.body ∙ h.carried; body = body_is f.body h.meta };
}
