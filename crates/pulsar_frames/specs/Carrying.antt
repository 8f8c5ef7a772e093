-- Frames of commands that carry a message, whose parts stand apart.
use Rattle.std.specs.Prelude.{◌≡◌, ℕ, List, Some}
use Rattle.pb_fields.specs.declared.field.Field.{Field}
use Rattle.pb_fields.specs.Canonical.{text}
use Rattle.message_meta.specs.declared.known.KnownMeta.{KnownMeta}
use Rattle.message_meta.specs.Known.{joined}
use Rattle.pulsar_commands.specs.declared.command.Command.{Command}
use Rattle.pulsar_frames.specs.declared.fault.FrameFault.{FrameFault}
use Rattle.pulsar_frames.specs.declared.frame.Frame.{Frame}
use Rattle.pulsar_frames.specs.Frames.{IsFrameText}
use Rattle.pulsar_frames.specs.Canonical.{frame_size, frame_text, IsTooLarge}

-- the frame of a command, of the known fields of a message's metadata, of the other fields, and of the payload
abbrev pub carrying : Command → KnownMeta → List Field → List ℕ → Frame
carrying c k fields payload = record { command = c; body = Some (record { meta = joined k fields; payload = payload }) }

-- The bytes are the frame's canonical text and a text of it, rest being the text of the other fields.
pub record IsCarryingText (c : Command) (k : KnownMeta) (rest payload bytes : List ℕ) : Type 0 where
  pub fields : List Field
  pub kept : rest ≡ text fields
  pub canonical : bytes ≡ frame_text (carrying c k fields payload)
  pub is_text : IsFrameText bytes (carrying c k fields payload)

-- The frame's size is all that can be wrong with it.
pub record IsCarryingFault (c : Command) (k : KnownMeta) (rest payload : List ℕ) (e : FrameFault) : Type 0 where
  pub fields : List Field
  pub kept : rest ≡ text fields
  pub large : IsTooLarge (frame_size (carrying c k fields payload)) e
