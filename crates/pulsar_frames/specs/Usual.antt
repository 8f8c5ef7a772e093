-- Frames of the usual form (own): of the usual commands, and with metadata of the usual form where one carries a message.
use Rattle.std.specs.Prelude.{◌≡◌, ℕ, List, None, Some}
use Rattle.std.specs.Option.{option_map}
use Rattle.message_meta.specs.Usual.{meta_viewed}
use Rattle.pulsar_commands.specs.declared.view.CommandView.{CommandView}
use Rattle.pulsar_commands.specs.declared.acks.AckView.{AckView}
use Rattle.pulsar_commands.specs.Usual.{ack_viewed, command_viewed}
use Rattle.pulsar_frames.specs.declared.frame.Body.{Body}
use Rattle.pulsar_frames.specs.declared.frame.Frame.{Frame}
use Rattle.pulsar_frames.specs.declared.view.FrameView.{FrameView}
use Rattle.pulsar_frames.specs.declared.view.MessageView.{MessageView}
use Rattle.pulsar_frames.specs.Canonical.{frame_text}
use Rattle.pulsar_frames.specs.Frames.{IsFrameText}

-- the code's views, without where their parts lie in memory
abbrev pub message_viewed : MessageView → Body
message_viewed m = record { meta = meta_viewed m.meta; payload = m.payload.now }

abbrev pub frame_viewed : FrameView → Frame
frame_viewed v = record { command = command_viewed v.command; body = option_map message_viewed v.message }

abbrev pub bare_viewed : CommandView → Frame
bare_viewed c = record { command = command_viewed c; body = None }

abbrev pub acking_viewed : AckView → Frame
acking_viewed a = record { command = ack_viewed a; body = None }

abbrev pub carrying_viewed : CommandView → MessageView → Frame
carrying_viewed c m = record { command = command_viewed c; body = Some (message_viewed m) }

-- The bytes are the frame's canonical text, and a text of it.
pub record IsUsualText (f : Frame) (bytes : List ℕ) : Type 0 where
  pub canonical : bytes ≡ frame_text f
  pub is_text : IsFrameText bytes f
