-- Bytes and packets of bytes that stand for values of the machine.
use Rattle.std.specs.Prelude.{◌≡◌, ℕ, List}
use Rattle.geo_base.specs.declared.frame.Frame.{Frame}
use Rattle.geo_base.specs.declared.frame.Frame.TheVariants as frame
use Rattle.geo_base.specs.Entry.{with_origin}
use Rattle.pulsar_frames.specs.declared.frame.Frame.{Frame as WireFrame}
use Rattle.pulsar_frames.specs.Frames.{IsFrameText}
use Rattle.frame_values.specs.Values.{SaysValue}

-- What the bytes say: the value of the frame that they are a text of; where they are none, that they can't be read.
pub data Reads (names : List (List ℕ)) (bytes : List ℕ) (f : Frame) : Type 0 where
  text : (w : WireFrame) → IsFrameText bytes w → SaysValue names w f → Reads names bytes f
  no_text : ((w : WireFrame) → IsFrameText bytes w → ⊥) → f ≡ frame.Unreadable → Reads names bytes f

-- a frame without the cluster that stored its entry first, which no bytes say
abbrev pub bare : Frame → Frame
bare (frame.Send id seq source e) = frame.Send id seq source (with_origin 0 e)
bare (frame.Message id position source e) = frame.Message id position source (with_origin 0 e)
bare f = f

-- The bytes stand for the value, whichever cluster it says stored its entry first.
abbrev pub StandFor : List (List ℕ) → List ℕ → Frame → Type 0
StandFor names bytes f = Reads names bytes (bare f)
