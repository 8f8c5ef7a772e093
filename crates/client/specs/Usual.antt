-- Frames of the usual form as a client reads and writes them: the machine's frames that they stand for.
use Rattle.std.specs.Prelude.{ℕ, List, [], Option, Some, None}
use Rattle.geo_base.specs.declared.frame.Frame.{Frame}
use Rattle.geo_base.specs.Setup.{Declared}
use Rattle.pulsar_commands.specs.declared.view.CommandView.{CommandView}
use Rattle.pulsar_commands.specs.Usual.{command_viewed}
use Rattle.pulsar_frames.specs.declared.frame.Body.{Body}
use Rattle.pulsar_frames.specs.declared.view.FrameView.{FrameView}
use Rattle.pulsar_frames.specs.declared.view.MessageView.{MessageView}
use Rattle.frame_values.specs.Usual.{entry_viewed, source_viewed}
use Rattle.frame_values.specs.Values.{carrying, simple_frame}

-- a command and the message that it carries; the cluster that stored it first does not stand in the bytes, and is 0 here
abbrev pub carrying_viewed : List (List ℕ) → CommandView → MessageView → Frame
carrying_viewed names v m = carrying (command_viewed v) (source_viewed names m) (entry_viewed 0 m)

abbrev pub value_told : List (List ℕ) → CommandView → Option MessageView → Frame
value_told names v None = simple_frame (command_viewed v)
value_told names v (Some m) = carrying_viewed names v m

-- the frame that a view stands for
abbrev pub value_viewed : List (List ℕ) → FrameView → Frame
value_viewed names v = value_told names v.command v.message

-- the message of a publish to all clusters: its producer is the client's
abbrev pub message_published : Declared → ℕ → Option (List ℕ) → List ℕ → Body
message_published d seq key text = record {
  meta = record { producer = d.name; seq = seq; publish_time = 0; replicated_from = None; key = key; replicate_to = []; marker = None; rest = [] };
  payload = text;
}
