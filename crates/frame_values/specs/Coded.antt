-- What the code answers in parts, and what it needs.
use Rattle.std.specs.Prelude.{◌≡◌, ℕ, ◌≤◌, Bool, true, false, List, [], Option, Some, None}
use Rattle.geo_base.specs.declared.entry.Content.{Content}
use Rattle.geo_base.specs.declared.entry.Content.TheVariants as content
use Rattle.geo_base.specs.declared.entry.Entry.{Entry}
use Rattle.geo_base.specs.declared.frame.Frame.{Frame}
use Rattle.geo_base.specs.declared.frame.Frame.TheVariants as frame
use Rattle.geo_base.specs.declared.marker.ClusterRef.{ClusterRef}
use Rattle.geo_base.specs.declared.marker.ClusterRef.TheVariants as cluster_ref
use Rattle.geo_base.specs.FrameSizes.{frame_size}
use Rattle.geo_base.specs.Sizes.{marker_type}
use Rattle.marker_codec.specs.Canonical.{canonical_fields}
use Rattle.marker_codec.specs.Machine.{named_marker}
use Rattle.marker_codec.specs.Markers.{IsMarkerText}
use Rattle.message_meta.specs.Known.{IsRest}
use Rattle.pb_fields.specs.declared.field.Field.{Field}
use Rattle.pb_fields.specs.Canonical.{text}
use Rattle.pulsar_commands.specs.declared.command.Command.{Command}
use Rattle.pulsar_frames.specs.declared.fault.FrameFault.{FrameFault}
use Rattle.pulsar_frames.specs.declared.frame.Frame.{Frame as WireFrame}
use Rattle.pulsar_frames.specs.Canonical.{IsTooLarge, frame_size as wire_size, frame_text}
use Rattle.pulsar_frames.specs.Frames.{IsFrameText}
use Rattle.frame_values.specs.Texts.{body_of, is_readable, unread_bytes, wire_frame}

-- a cluster's number, or else its name
abbrev pub place_or : List ℕ → Option ℕ → ClusterRef
place_or n None = cluster_ref.Stranger n
place_or n (Some x) = cluster_ref.Known x

-- The text of a marker that keeps no payload is a text of it: its texts are UTF-8, and its numbers have 64 bits.
abbrev pub IsMarkerRight : List (List ℕ) → Content → List ℕ → Type 0
IsMarkerRight names (content.Marked m) [] = IsMarkerText (marker_type m) (text (canonical_fields (named_marker names m))) (named_marker names m)
IsMarkerRight names c payload = Unit {0}

abbrev pub IsEntryRight : List (List ℕ) → Frame → Type 0
IsEntryRight names (frame.Send id seq source e) = IsMarkerRight names e.content e.payload
IsEntryRight names (frame.Message id position source e) = IsMarkerRight names e.content e.payload
IsEntryRight names f = Unit {0}

-- The bytes are the canonical text of the frame, and a text of it.
pub record IsWritten (names : List (List ℕ)) (f : Frame) (bytes : List ℕ) : Type 0 where
  pub rest : List Field
  pub kept : unread_bytes f ≡ text rest
  pub canonical : bytes ≡ frame_text (wire_frame names rest f)
  pub is_text : IsFrameText bytes (wire_frame names rest f)
  pub marker : IsEntryRight names f

-- A frame that has a text: bytes that can't be read are written by nobody, the bytes that an entry keeps of fields that nobody
-- reads are their text, and the size is within the limit on frames (Pulsar's largest message and 10 KiB for what frames it,
-- 5,253,120 bytes, after the size's own four).
pub record IsWritable (names : List (List ℕ)) (f : Frame) : Type 0 where
  pub readable : is_readable f ≡ true
  pub rest : IsRest (unread_bytes f)
  pub size : frame_size names f ≤ 5253124

abbrev pub carries_entry : Frame → Bool
carries_entry (frame.Send id seq source e) = true
carries_entry (frame.Message id position source e) = true
carries_entry f = false

-- the frame of a command that carries an entry
abbrev pub carried_frame : List (List ℕ) → Command → Option ClusterRef → Entry → List Field → WireFrame
carried_frame names c source e rest = record { command = c; body = Some (body_of names source e rest) }

-- The bytes are the canonical text of a command with an entry, and a text of it.
pub record IsCarriedText (names : List (List ℕ)) (c : Command) (source : Option ClusterRef) (e : Entry) (bytes : List ℕ) : Type 0 where
  pub rest : List Field
  pub kept : e.meta.rest ≡ text rest
  pub canonical : bytes ≡ frame_text (carried_frame names c source e rest)
  pub is_text : IsFrameText bytes (carried_frame names c source e rest)
  pub marker : IsMarkerRight names e.content e.payload

-- Its size is all that can be wrong with it.
pub record IsCarriedFault (names : List (List ℕ)) (c : Command) (source : Option ClusterRef) (e : Entry) (why : FrameFault) : Type 0 where
  pub rest : List Field
  pub kept : e.meta.rest ≡ text rest
  pub large : IsTooLarge (wire_size (carried_frame names c source e rest)) why
