-- Frames: what their parts say, and why they say nothing.
use Rattle.std.specs.Prelude.{◌≡◌, ◌≢◌, ℕ, Bool, true, false, List, ◌++◌, Option, Some, None, is_some}
use Rattle.message_meta.specs.Table.{rows}
use Rattle.message_meta.specs.Metadata.{IsMetaText}
use Rattle.pb_fields.specs.declared.message.MessageFault.{MessageFault}
use Rattle.pb_fields.specs.declared.message.MessageFault.TheVariants as why_meta
use Rattle.pb_fields.specs.Message.{WrongMessage}
use Rattle.pulsar_commands.specs.declared.command.Command.{Command}
use Rattle.pulsar_commands.specs.declared.fault.CommandFault.{CommandFault}
use Rattle.pulsar_commands.specs.declared.fault.CommandFault.TheVariants as why_command
use Rattle.pulsar_commands.specs.declared.kind.Kind.{Kind}
use Rattle.pulsar_commands.specs.declared.kind.Kind.TheVariants as kind
use Rattle.pulsar_commands.specs.Faults.{WrongCommand}
use Rattle.pulsar_commands.specs.Parts.{kind_of}
use Rattle.pulsar_commands.specs.Text.{IsCommandText}
use Rattle.pulsar_frames.specs.declared.fault.FrameFault.{FrameFault}
use Rattle.pulsar_frames.specs.declared.fault.FrameFault.TheVariants as fault
use Rattle.pulsar_frames.specs.declared.frame.Body.{Body}
use Rattle.pulsar_frames.specs.declared.frame.Frame.{Frame}
use Rattle.pulsar_frames.specs.Layout.{Layout, BodyLayout, layout_text, Fits, TakesLayout, BrokenLayout}

-- the commands that carry a message
abbrev pub carries : Kind → Bool
carries kind.Send = true
carries kind.Message = true
carries k = false

-- ---- what is right

-- The parts say the frame, each by its own grammar; a message is there exactly where the command carries one.
abbrev pub MeansBody : Option BodyLayout → Option Body → Type 0
MeansBody None None = Unit {0}
MeansBody (Some l) (Some b) = IsMetaText l.meta b.meta × (l.payload ≡ b.payload)
MeansBody l b = ⊥

pub record MeansFrame (l : Layout) (f : Frame) : Type 0 where
  pub command : IsCommandText l.command f.command
  pub carried : is_some l.body ≡ carries (kind_of f.command)
  pub body : MeansBody l.body f.body

-- The bytes are a text of the frame.
pub record IsFrameText (bytes : List ℕ) (f : Frame) : Type 0 where
  pub layout : Layout
  pub text : bytes ≡ layout_text layout
  pub fits : Fits layout
  pub means : MeansFrame layout f

-- A frame stands at the front of the bytes, and rest comes after it.
pub record TakesFrame (bytes : List ℕ) (f : Frame) (rest : List ℕ) : Type 0 where
  pub text : List ℕ
  pub parts : bytes ≡ text ++ rest
  pub frame : IsFrameText text f

-- ---- what is wrong

-- What is wrong with parts whose sizes fit, in the order of judgement: the command; a message that the command does not
-- carry, or none where it carries one; the metadata.
pub data WrongFrame (l : Layout) (e : FrameFault) : Type 0 where
  command : (why : CommandFault) → WrongCommand l.command why → e ≡ fault.Command why → WrongFrame l e
  carried : (c : Command) → IsCommandText l.command c → is_some l.body ≢ carries (kind_of c) → e ≡ fault.Sizes → WrongFrame l e
  meta : (c : Command) (b : BodyLayout) (why : MessageFault) → IsCommandText l.command c → carries (kind_of c) ≡ true → l.body ≡ Some b → WrongMessage rows b.meta why → e ≡ fault.Meta why → WrongFrame l e

-- What is wrong with the first frame of the bytes: first its sizes, then its parts.
pub data HasFault (bytes : List ℕ) (e : FrameFault) : Type 0 where
  sizes : BrokenLayout bytes e → HasFault bytes e
  parts : (l : Layout) (rest : List ℕ) → TakesLayout bytes l rest → WrongFrame l e → HasFault bytes e

-- A fault is that of the bytes. Want of memory says nothing of them.
abbrev pub IsFaultOrMemory : (FrameFault → Type 0) → FrameFault → Type 0
IsFaultOrMemory P fault.Memory = Unit {0}
IsFaultOrMemory P e = P e

-- a fault of a command, and of metadata, as one of the frame; want of memory is the same for all
abbrev pub command_fault : CommandFault → FrameFault
command_fault why_command.Memory = fault.Memory
command_fault why = fault.Command why

abbrev pub meta_fault : MessageFault → FrameFault
meta_fault why_meta.Memory = fault.Memory
meta_fault why = fault.Meta why

-- metadata that has no reading, unless memory ran out
abbrev pub WrongBody : List ℕ → FrameFault → Type 0
WrongBody bytes fault.Memory = Unit {0}
WrongBody bytes (fault.Meta why) = WrongMessage rows bytes why
WrongBody bytes e = ⊥
