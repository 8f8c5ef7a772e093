-- Faults of parts as faults of frames.
use Rattle.std.proofs.Common.{◌≡◌, ◌≢◌, ℕ, ◌<◌, ◌≤◌, ◌-◌, Bool, true, false, List, [], ◌∷◌, ◌++◌, Option, Some, None, length, drop, refl, sym, ap, ◌∙◌, arith, length-append, append_assoc}
use Rattle.std.proofs.lemmas.List.{drop_at}
use Rattle.std.specs.Prelude.{is_some, not}
use Rattle.std.specs.Bool.{beq}
use Rattle.std.specs.Option.{option_map}
use Rattle.pulsar_commands.specs.declared.command.Command.{Command}
use Rattle.pulsar_commands.specs.declared.fault.CommandFault.{CommandFault}
use Rattle.pulsar_commands.specs.declared.fault.CommandFault.TheVariants as why_command
use Rattle.pulsar_commands.specs.Faults.{WrongCommand}
use Rattle.pulsar_commands.specs.Faults.{IsFaultOrMemory as IsCommandFaultOrMemory}
use Rattle.pulsar_commands.specs.Parts.{kind_of}
use Rattle.pulsar_commands.specs.Text.{IsCommandText}
use Rattle.pulsar_frames.specs.declared.fault.FrameFault.{FrameFault}
use Rattle.pulsar_frames.specs.declared.fault.FrameFault.TheVariants as fault
use Rattle.pulsar_frames.specs.declared.frame.Frame.{Frame}
use Rattle.pulsar_frames.specs.declared.layout.BodyParts.{BodyParts}
use Rattle.pulsar_frames.specs.Viewed.{body_layout}
use Rattle.pulsar_frames.specs.Layout.{Layout, BodyLayout, TakesLayout, content_text}
use Rattle.pulsar_frames.specs.Frames.{carries, TakesFrame, WrongFrame, command, meta, HasFault, parts, IsFaultOrMemory, WrongBody, command_fault}
use Rattle.pulsar_frames.specs.Streams.{AreFrames, end, next}
use Rattle.pulsar_frames.proofs.Layouts.{length-sized}
use Rattle.pulsar_frames.proofs.OneStream.{frames_append}

pub command_wrong : (l : Layout) (why : CommandFault) → IsCommandFaultOrMemory (WrongCommand l.command) why → IsFaultOrMemory (WrongFrame l) (command_fault why)
command_wrong l why_command.Memory h = tt
command_wrong l (why_command.Pb x) h = command (why_command.Pb x) h refl
command_wrong l (why_command.WrongWire x) h = command (why_command.WrongWire x) h refl
command_wrong l (why_command.NotText x) h = command (why_command.NotText x) h refl
command_wrong l (why_command.Missing x) h = command (why_command.Missing x) h refl
command_wrong l (why_command.UnknownType x) h = command (why_command.UnknownType x) h refl

pub body_wrong : (l : Layout) (c : Command) (b : BodyLayout) (e : FrameFault) → IsCommandText l.command c → carries (kind_of c) ≡ true → l.body ≡ Some b → WrongBody b.meta e → IsFaultOrMemory (WrongFrame l) e
body_wrong l c b fault.Memory text does is h = tt
body_wrong l c b (fault.Meta why) text does is h = meta c b why text does is h refl
body_wrong l c b (fault.TooLarge n) text does is h = absurd h
body_wrong l c b fault.Sizes text does is h = absurd h
body_wrong l c b fault.Checksum text does is h = absurd h
body_wrong l c b (fault.Command why) text does is h = absurd h

pub frame_wrong : (bytes : List ℕ) (l : Layout) (rest : List ℕ) (e : FrameFault) → TakesLayout bytes l rest → IsFaultOrMemory (WrongFrame l) e → IsFaultOrMemory (HasFault bytes) e
frame_wrong bytes l rest fault.Memory t h = tt
frame_wrong bytes l rest (fault.TooLarge n) t h = parts l rest t h
frame_wrong bytes l rest fault.Sizes t h = parts l rest t h
frame_wrong bytes l rest fault.Checksum t h = parts l rest t h
frame_wrong bytes l rest (fault.Command why) t h = parts l rest t h
frame_wrong bytes l rest (fault.Meta why) t h = parts l rest t h

-- ---- frame after frame

pub frames_push : (s r more : List ℕ) (fs : List Frame) (f : Frame) → AreFrames s fs r → TakesFrame r f more → AreFrames s (fs ++ f ∷ []) more
frames_push s r more fs f h t = frames_append h (next t end)

-- a frame takes some bytes
pub frame_shorter : (s : List ℕ) (f : Frame) (rest : List ℕ) → TakesFrame s f rest → length rest < length s
frame_shorter s f rest h =
    omega (arith, ap (λ (b : List ℕ). length b) h.parts, length-append h.text rest, ap (λ (b : List ℕ). length b) h.frame.text, length-sized (content_text h.frame.layout))

-- what comes after frames is an end of the bytes
frames_front : {s r : List ℕ} {fs : List Frame} → AreFrames s fs r → (front : List ℕ) × (s ≡ front ++ r)
frames_front (end) = ([], refl)
frames_front (next {rest = r} t h) =
    let tail = frames_front h in
    (t.text ++ tail.0, t.parts ∙ ap (λ (b : List ℕ). t.text ++ b) tail.1 ∙ sym (append_assoc t.text tail.0 r))

pub rest_length : (s r : List ℕ) (fs : List Frame) → AreFrames s fs r → length r ≤ length s
rest_length s r fs h = let front = frames_front h in omega (arith, ap (λ (b : List ℕ). length b) front.1, length-append front.0 r)

pub rest_is : (s r : List ℕ) (fs : List Frame) → AreFrames s fs r → r ≡ drop (length s - length r) s
rest_is s r fs h =
    let front = frames_front h in
    let len : length s - length r ≡ length front.0 = omega (arith, ap (λ (b : List ℕ). length b) front.1, length-append front.0 r) in
    rw len (sym (ap (λ (b : List ℕ). drop (length front.0) b) front.1 ∙ drop_at front.0 r (length front.0) refl))

-- ---- a message that is there

pub some_layout : (o : Option BodyParts) → is_some (option_map body_layout o) ≡ is_some o
some_layout None = refl
some_layout (Some b) = refl

pub differ : (a b : Bool) → not (beq a b) ≡ true → a ≡ b → ⊥
differ true true h e = cc
differ false false h e = cc
differ true false h e = cc
differ false true h e = cc

pub agree : (a b : Bool) → not (beq a b) ≡ false → a ≡ b
agree true true h = refl
agree false false h = refl
agree true false h = absurd cc
agree false true h = absurd cc

pub is_fault : (bytes : List ℕ) (e : FrameFault) → e ≢ fault.Memory → IsFaultOrMemory (HasFault bytes) e → HasFault bytes e
is_fault bytes fault.Memory some h = absurd (some refl)
is_fault bytes (fault.TooLarge n) some h = h
is_fault bytes fault.Sizes some h = h
is_fault bytes fault.Checksum some h = h
is_fault bytes (fault.Command why) some h = h
is_fault bytes (fault.Meta why) some h = h
