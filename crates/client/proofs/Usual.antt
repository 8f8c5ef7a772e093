-- Frames of the usual form stand for the machine's frames.
use Rattle.std.proofs.Common.{◌≡◌, ℕ, List, refl}
use Rattle.std.specs.Prelude.{Option, Some, None}
use Rattle.pulsar_frames.specs.declared.view.FrameView.{FrameView}
use Rattle.pulsar_frames.specs.declared.view.MessageView.{MessageView}
use Rattle.pulsar_frames.specs.Frames.{IsFrameText}
use Rattle.pulsar_frames.specs.Usual.{frame_viewed}
use Rattle.frame_values.proofs.UsualValues.{entry_is, viewed_carries, viewed_simple}
use Rattle.frame_values.specs.Standing.{Reads, text}
use Rattle.frame_values.specs.Values.{SaysValue}
use Rattle.client.specs.Usual.{value_told, value_viewed}
use Rattle.frame_values.specs.Usual.{entry_viewed, source_viewed}

says_viewed : (names : List (List ℕ)) (v : FrameView) (o : Option MessageView) → v.message ≡ o → SaysValue names (frame_viewed v) (value_told names v.command o)
says_viewed names v None is = viewed_simple names v (value_told names v.command None) is refl
says_viewed names v (Some m) is = viewed_carries names v m (value_told names v.command (Some m)) (source_viewed names m) (entry_viewed 0 m) is refl
    (entry_is names m (source_viewed names m) (entry_viewed 0 m) refl refl)

pub reads_viewed : (names : List (List ℕ)) (bytes : List ℕ) (v : FrameView) → IsFrameText bytes (frame_viewed v) → Reads names bytes (value_viewed names v)
reads_viewed names bytes v is = text (frame_viewed v) is (says_viewed names v v.message refl)
