-- What was read is complete: a message is there exactly where the command carries one.
use Rattle.std.proofs.Common.{◌≡◌, ℕ, List, Option, Some, None, refl, ◌∙◌}
use Rattle.std.specs.Prelude.{is_some}
use Rattle.std.specs.List.{AllByRecursion}
use Rattle.pulsar_frames.specs.declared.frame.Body.{Body}
use Rattle.pulsar_frames.specs.declared.frame.Frame.{Frame}
use Rattle.pulsar_frames.specs.Layout.{Layout, BodyLayout}
use Rattle.pulsar_frames.specs.Frames.{MeansBody, MeansFrame, TakesFrame}
use Rattle.pulsar_frames.specs.Streams.{AreFrames, end, next}
use Rattle.pulsar_frames.specs.Canonical.{IsComplete}

body_there : (l : Option BodyLayout) (b : Option Body) → MeansBody l b → is_some b ≡ is_some l
body_there None None h = refl
body_there (Some l) (Some b) h = refl
body_there None (Some b) h = absurd h
body_there (Some l) None h = absurd h

frame_complete : (l : Layout) (f : Frame) → MeansFrame l f → IsComplete f
frame_complete l f h = body_there l.body f.body h.body ∙ h.carried

pub takes_complete : {s r : List ℕ} {f : Frame} → TakesFrame s f r → IsComplete f
takes_complete {f = f} h = frame_complete h.frame.layout f h.frame.means

pub frames_complete : {s r : List ℕ} {fs : List Frame} → AreFrames s fs r → AllByRecursion IsComplete fs
frames_complete end = tt
frames_complete (next t h) = (takes_complete t, frames_complete h)
