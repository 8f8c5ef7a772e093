-- Whether bytes are the text of one frame, by what stands at their front.
use Rattle.std.proofs.Common.{◌≡◌, ◌≢◌, ℕ, List, [], ◌++◌, sym, ◌∙◌, ap, subst}
use Rattle.std.proofs.lemmas.List.{append-nil}
use Rattle.pulsar_frames.specs.declared.fault.FrameFault.{FrameFault}
use Rattle.pulsar_frames.specs.declared.frame.Frame.{Frame}
use Rattle.pulsar_frames.specs.Layout.{IsUnfinished}
use Rattle.pulsar_frames.specs.Frames.{HasFault, IsFaultOrMemory, IsFrameText, TakesFrame}
use Rattle.pulsar_frames.specs.declared.fault.FrameFault.TheVariants as fault
use Rattle.pulsar_frames.proofs.OneFrame.{frame_finished, frame_one, frame_sound}
use Rattle.pulsar_frames.proofs.Reading.{is_fault}

-- a frame's text is that frame with nothing after it
alone : (bytes : List ℕ) (f : Frame) → IsFrameText bytes f → TakesFrame bytes f []
alone bytes f h = record { text = bytes; parts = sym (append-nil bytes); frame = h }

pub whole : (bytes : List ℕ) (f : Frame) (rest : List ℕ) → TakesFrame bytes f rest → rest ≡ [] → IsFrameText bytes f
whole bytes f rest h none =
    let text : h.text ≡ bytes = sym (append-nil h.text) ∙ ap (λ (b : List ℕ). h.text ++ b) (sym none) ∙ sym h.parts in
    subst (λ (b : List ℕ). IsFrameText b f) text h.frame

pub more_after : (bytes : List ℕ) (f : Frame) (rest : List ℕ) → TakesFrame bytes f rest → rest ≢ [] → (g : Frame) → IsFrameText bytes g → ⊥
more_after bytes f rest h some g is = some (frame_one bytes f g rest [] h (alone bytes g is)).1

pub no_whole : (bytes : List ℕ) → IsUnfinished bytes → (g : Frame) → IsFrameText bytes g → ⊥
no_whole bytes h g is = frame_finished bytes g [] (alone bytes g is) h

pub no_frame : (bytes : List ℕ) (e : FrameFault) → e ≢ fault.Memory → IsFaultOrMemory (HasFault bytes) e → (g : Frame) → IsFrameText bytes g → ⊥
no_frame bytes e other h g is = frame_sound bytes g [] e (alone bytes g is) (is_fault bytes e other h)
