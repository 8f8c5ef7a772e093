-- What is answered for the bytes of a message: the canonical bytes of what they say, or why they say nothing.
use Rattle.std.specs.Prelude.{◌≡◌, ◌≢◌, ℕ, ◌-◌, List, [], Result, Ok, Err, ◌⊎◌}
use Rattle.geo_base.specs.declared.frame.Frame.{Frame as Value}
use Rattle.geo_base.specs.declared.frame.Frame.TheVariants as value
use Rattle.geo_base.specs.FrameSizes.{frame_size as value_size}
use Rattle.pb_fields.specs.declared.field.Field.{Field}
use Rattle.pb_fields.specs.declared.fault.PbFault.TheVariants as pb
use Rattle.pb_fields.specs.declared.message.MessageFault.TheVariants as message
use Rattle.pb_fields.specs.Text.{IsText}
use Rattle.pb_fields.specs.Faults.{IsFaultOf}
use Rattle.pb_fields.specs.Canonical.{text}
use Rattle.pb_fields.specs.Message.{WrongMessage, IsWrongOrMemory}
use Rattle.message_meta.specs.Table.{rows}
use Rattle.message_meta.specs.Metadata.{Metadata, IsMetaText}
use Rattle.message_meta.specs.Canonical.{canonical_fields}
use Rattle.marker_codec.specs.declared.fault.MarkerFault.TheVariants as marker_fault
use Rattle.marker_codec.specs.declared.marker.Marker.{Marker}
use Rattle.marker_codec.specs.Markers.{IsMarkerText}
use Rattle.marker_codec.specs.Faults.{WrongMarker, IsWrongOrMemory as IsMarkerFaultOrMemory}
use Rattle.marker_codec.specs.Canonical.{canonical_fields as marker_fields}
use Rattle.pulsar_commands.specs.declared.command.Command.{Command}
use Rattle.pulsar_commands.specs.declared.fault.CommandFault.TheVariants as command_fault
use Rattle.pulsar_commands.specs.Text.{IsCommandText}
use Rattle.pulsar_commands.specs.Faults.{WrongCommand, IsFaultOrMemory}
use Rattle.pulsar_commands.specs.Canonical.{command_text}
use Rattle.pulsar_frames.specs.declared.fault.FrameFault.{FrameFault}
use Rattle.pulsar_frames.specs.declared.fault.FrameFault.TheVariants as frame_fault
use Rattle.pulsar_frames.specs.declared.frame.Frame.{Frame}
use Rattle.pulsar_frames.specs.Layout.{IsUnfinished}
use Rattle.pulsar_frames.specs.Frames.{TakesFrame, HasFault}
use Rattle.pulsar_frames.specs.Canonical.{frame_text, frame_size, IsTooLarge}
use Rattle.frame_values.specs.Coded.{IsWritten as IsValueWritten}
use Rattle.frame_values.specs.Standing.{Reads}
use Rattle.byte_answers.specs.declared.answer.Answer.{Answer}
use Rattle.byte_answers.specs.declared.answer.Answer.TheVariants as answer
use Rattle.byte_answers.specs.declared.answer.Kind.{Kind}
use Rattle.byte_answers.specs.declared.answer.Kind.TheVariants as kind

abbrev pub IsFieldsAnswer : List ℕ → Answer → Type 0
IsFieldsAnswer bytes (answer.Canonical out) = (fields : List Field) × IsText bytes fields × (out ≡ text fields)
IsFieldsAnswer bytes (answer.NoFields fault) = (fault ≢ pb.Memory) × IsFaultOf bytes fault
IsFieldsAnswer bytes a = ⊥

abbrev pub IsMetaAnswer : List ℕ → Answer → Type 0
IsMetaAnswer bytes (answer.Canonical out) = (m : Metadata) × IsMetaText bytes m × (out ≡ text (canonical_fields m))
IsMetaAnswer bytes (answer.NoMeta fault) = (fault ≢ message.Memory) × IsWrongOrMemory (WrongMessage rows bytes) fault
IsMetaAnswer bytes a = ⊥

abbrev pub IsMarkerAnswer : ℕ → List ℕ → Answer → Type 0
IsMarkerAnswer number bytes (answer.Canonical out) = (m : Marker) × IsMarkerText number bytes m × (out ≡ text (marker_fields m))
IsMarkerAnswer number bytes (answer.NoMarker fault) = (fault ≢ marker_fault.Memory) × IsMarkerFaultOrMemory (WrongMarker number bytes) fault
IsMarkerAnswer number bytes a = ⊥

abbrev pub IsCommandAnswer : List ℕ → Answer → Type 0
IsCommandAnswer bytes (answer.Canonical out) = (c : Command) × IsCommandText bytes c × (out ≡ command_text c)
IsCommandAnswer bytes (answer.NoCommand fault) = (fault ≢ command_fault.Memory) × IsFaultOrMemory (WrongCommand bytes) fault
IsCommandAnswer bytes a = ⊥

-- The first frame of a stream is written again. What is written has every field, so it can be larger than what was read.
abbrev pub IsFrameAnswer : List ℕ → Answer → Type 0
IsFrameAnswer bytes (answer.Canonical out) = (f : Frame) × (rest : List ℕ) × TakesFrame bytes f rest × (out ≡ frame_text f)
IsFrameAnswer bytes (answer.NoFrame fault) = HasFault bytes fault ⊎ ((f : Frame) × (rest : List ℕ) × TakesFrame bytes f rest × IsTooLarge (frame_size f) fault)
IsFrameAnswer bytes answer.Incomplete = IsUnfinished bytes
IsFrameAnswer bytes a = ⊥

-- what a reader that has no frame is answered by
abbrev pub IsNoFrame : Result (Unit {0}) FrameFault → Answer → Type 0
IsNoFrame (Ok u) answer.Incomplete = Unit {0}
IsNoFrame (Err why) (answer.NoFrame fault) = (why ≢ frame_fault.Memory) × (fault ≡ why)
IsNoFrame r a = ⊥

-- the answer for a frame
abbrev pub IsWritten : Frame → Answer → Type 0
IsWritten f (answer.Canonical out) = out ≡ frame_text f
IsWritten f (answer.NoFrame fault) = IsTooLarge (frame_size f) fault
IsWritten f a = ⊥

-- the answer for a value, under these names of clusters
abbrev pub IsValueText : List (List ℕ) → Value → Answer → Type 0
IsValueText names f (answer.Canonical out) = IsValueWritten names f out
IsValueText names f (answer.NoFrame fault) = IsTooLarge (value_size names f - 4) fault
IsValueText names value.Unreadable answer.Unreadable = Unit {0}
IsValueText names f a = ⊥

-- The value of one frame is written again, under the same names.
abbrev pub IsValueAnswer : List (List ℕ) → List ℕ → Answer → Type 0
IsValueAnswer names bytes a = (f : Value) × Reads names bytes f × IsValueText names f a

abbrev pub IsAnswer : Kind → List ℕ → Answer → Type 0
IsAnswer kind.Fields bytes a = IsFieldsAnswer bytes a
IsAnswer kind.Meta bytes a = IsMetaAnswer bytes a
IsAnswer (kind.Marker number) bytes a = IsMarkerAnswer number bytes a
IsAnswer kind.Command bytes a = IsCommandAnswer bytes a
IsAnswer kind.Frame bytes a = IsFrameAnswer bytes a
IsAnswer kind.Value bytes a = IsValueAnswer [] bytes a
