-- A frame stands at the front of any bytes, or less than one, or something is wrong with it; and any stream has a reading.
use Rattle.std.proofs.Common.{◌≡◌, ℕ, zero, suc, ◌<◌, Bool, true, false, List, [], ◌∷◌, ◌++◌, Option, Some, None, length, refl, sym, ap, subst, ◌∙◌, arith, ◌⊎◌, inl, inr}
use Rattle.std.specs.Prelude.{is_some}
use Rattle.std.proofs.lemmas.List.{append-nil}
use Rattle.pulsar_commands.specs.declared.command.Command.{Command}
use Rattle.pulsar_commands.specs.Parts.{kind_of}
use Rattle.pulsar_commands.specs.Text.{IsCommandText}
use Rattle.pulsar_frames.specs.declared.fault.FrameFault.{FrameFault}
use Rattle.pulsar_frames.specs.declared.fault.FrameFault.TheVariants as fault
use Rattle.pulsar_frames.specs.declared.frame.Body.{Body}
use Rattle.pulsar_frames.specs.declared.frame.Frame.{Frame}
use Rattle.pulsar_frames.specs.Layout.{Layout, BodyLayout, layout_text, content_text, TakesLayout}
use Rattle.pulsar_frames.specs.Frames.{carries, MeansBody, MeansFrame, IsFrameText, TakesFrame, WrongFrame, command, carried, meta, sizes, parts}
use Rattle.pulsar_frames.specs.Streams.{end, next, Ends, unfinished, refused, Reading, Feeds, reads, refuses}
use Rattle.pulsar_frames.proofs.Reading.{frame_shorter}
use Rattle.pulsar_frames.proofs.OneStream.{ends_sound}
use Rattle.pulsar_frames.proofs.Whole.{whole as whole_text, more_after}
use Rattle.codec_laws.specs.Answers.{AreBytes, HasAnswer, right, wrong}
use Rattle.codec_laws.specs.Streams.{HasReading}
use Rattle.codec_laws.proofs.AnswerBytes.{parts_are, joined_are}
use Rattle.codec_laws.proofs.Commands.{CommandAnswer, command_answer}
use Rattle.codec_laws.proofs.Layouts.{LayoutAnswer, whole, less, broken, layout_answer, command_are, takes_are, body_are}
use Rattle.codec_laws.proofs.Metas.{MetaAnswer, meta_answer}

-- ---- what the parts say

abbrev MeansAnswer : Layout → Type 0
MeansAnswer l = ((f : Frame) × MeansFrame l f) ⊎ ((e : FrameFault) × WrongFrame l e)

of_meta : (l : Layout) (c : Command) (b : BodyLayout) → IsCommandText l.command c → l.body ≡ Some b → carries (kind_of c) ≡ true → MetaAnswer b.meta → MeansAnswer l
of_meta l c b text is does (wrong e h) = inr (fault.Meta e, meta c b e text does is h refl)
of_meta l c b text is does (right m h) =
    let body : Body = record { meta = m; payload = b.payload } in
    inl (
      record { command = c; body = Some body },
      record {
        command = text;
        carried = rw is (sym does);
        body = subst (λ (o : Option BodyLayout). MeansBody o (Some body)) (sym is) (h, refl);
      },
    )

-- a message is there where the command carries one
of_body : (l : Layout) (c : Command) (o : Option BodyLayout) (does : Bool) → AreBytes (content_text l) → IsCommandText l.command c → l.body ≡ o → carries (kind_of c) ≡ does → MeansAnswer l
of_body l c None false are text is does = inl (record { command = c; body = None }, record { command = text; carried = rw (is, does) refl; body = rw is tt })
of_body l c (Some b) true are text is does = of_meta l c b text is does (meta_answer b.meta (body_are l b is are).0)
of_body l c None true are text is does = inr (fault.Sizes, carried c text (λ e. differ (ap (λ (o : Option BodyLayout). is_some o) (sym is) ∙ e ∙ does)) refl)
  where
    differ : ◌≡◌ {A = Bool} false true → ⊥
    differ e = cc
of_body l c (Some b) false are text is does = inr (fault.Sizes, carried c text (λ e. differ (ap (λ (o : Option BodyLayout). is_some o) (sym is) ∙ e ∙ does)) refl)
  where
    differ : ◌≡◌ {A = Bool} true false → ⊥
    differ e = cc

of_command : (l : Layout) → AreBytes (content_text l) → CommandAnswer l.command → MeansAnswer l
of_command l are (wrong e h) = inr (fault.Command e, command e h refl)
of_command l are (right c text) = of_body l c l.body (carries (kind_of c)) are text refl refl

-- ---- the front of the bytes

-- the frame and what comes after it, or why none begins the bytes
abbrev pub FrontAnswer : List ℕ → Type 0
FrontAnswer bytes = HasAnswer {X = Frame × List ℕ} {E = Option FrameFault} (λ t. TakesFrame bytes t.0 t.1) (λ why. Ends bytes why)

of_parts : (bytes : List ℕ) (l : Layout) (rest : List ℕ) → TakesLayout bytes l rest → MeansAnswer l → FrontAnswer bytes
of_parts bytes l rest t (inr e) = wrong (Some e.0) (refused (parts l rest t e.1))
of_parts bytes l rest t (inl f) = right (f.0, rest) (record { text = layout_text l; parts = t.parts; frame = record { layout = l; text = refl; fits = t.fits; means = f.1 } })

of_layout : (bytes : List ℕ) → AreBytes bytes → LayoutAnswer bytes → FrontAnswer bytes
of_layout bytes are (less h) = wrong None (unfinished h)
of_layout bytes are (broken why h) = wrong (Some why) (refused (sizes h))
of_layout bytes are (whole l rest t) =
    let content : AreBytes (content_text l) = takes_are bytes l rest t are in
    of_parts bytes l rest t (of_command l content (command_answer l.command (command_are l content)))

pub front_answer : (bytes : List ℕ) → AreBytes bytes → FrontAnswer bytes
front_answer bytes are = of_layout bytes are (layout_answer bytes are)

-- ---- one frame

abbrev pub TextAnswer : List ℕ → Type 0
TextAnswer bytes = ((f : Frame) × IsFrameText bytes f) ⊎ ((f : Frame) → IsFrameText bytes f → ⊥)

alone : (bytes : List ℕ) (f : Frame) → IsFrameText bytes f → TakesFrame bytes f []
alone bytes f h = record { text = bytes; parts = sym (append-nil bytes); frame = h }

of_rest : (bytes : List ℕ) (f : Frame) (rest : List ℕ) → TakesFrame bytes f rest → TextAnswer bytes
of_rest bytes f [] t = inl (f, whole_text bytes f [] t refl)
of_rest bytes f (b ∷ rest) t = inr (λ g is. more_after bytes f (b ∷ rest) t (λ e. cc) g is)

of_front : (bytes : List ℕ) → FrontAnswer bytes → TextAnswer bytes
of_front bytes (wrong why h) = inr (λ f is. ends_sound bytes why f [] h (alone bytes f is))
of_front bytes (right f t) = of_rest bytes f.0 f.1 t

pub text_answer : (bytes : List ℕ) → AreBytes bytes → TextAnswer bytes
text_answer bytes are = of_front bytes (front_answer bytes are)

-- ---- a stream

behind : (stream : List ℕ) (f : Frame) (more : List ℕ) → TakesFrame stream f more → HasReading more → HasReading stream
behind stream f more t r = record { frames = f ∷ r.frames; rest = r.rest; why = r.why; is = record { whole = next t r.is.whole; ends = r.is.ends } }

stream_from : (fuel : ℕ) (stream : List ℕ) → length stream < fuel → AreBytes stream → HasReading stream
stream_from zero stream lt are = absurd (omega arith)
stream_from (suc fuel) stream lt are =
    elim (front_answer stream are) [
      | wrong why h ↦ record { frames = []; rest = stream; why = why; is = record { whole = end; ends = h } }
      | right f t ↦ behind stream f.0 f.1 t (stream_from fuel f.1 (omega (arith, frame_shorter stream f.0 f.1 t)) (parts_are stream t.text f.1 t.parts are).1)
    ]

pub stream_answer : (stream : List ℕ) → AreBytes stream → HasReading stream
stream_answer stream are = stream_from (suc (length stream)) stream (omega arith) are

-- ---- a piece that is fed

by_fault : (old : Reading) (piece : List ℕ) (o : Option FrameFault) → old.fault ≡ o → AreBytes (old.rest ++ piece) → (new : Reading) × Feeds old piece new
by_fault old piece (Some why) is are = (old, refuses why is refl)
by_fault old piece None is are =
    let r = stream_answer (old.rest ++ piece) are in
    (record { waiting = old.waiting ++ r.frames; rest = r.rest; fault = r.why }, reads r.frames is r.is refl)

pub fed_answer : (old : Reading) (piece : List ℕ) → AreBytes old.rest → AreBytes piece → (new : Reading) × Feeds old piece new
fed_answer old piece own more = by_fault old piece old.fault refl (joined_are old.rest piece own more)
