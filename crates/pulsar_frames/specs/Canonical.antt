-- The canonical text of a frame: those of its command and its metadata, after their sizes.
use Rattle.std.specs.Prelude.{◌≡◌, ℕ, ◌<◌, List, length, Some, is_some, IfSome}
use Rattle.std.specs.Option.{option_map}
use Rattle.pb_fields.specs.Canonical.{text}
use Rattle.message_meta.specs.Canonical.{IsMetadata, canonical_fields}
use Rattle.pulsar_commands.specs.Canonical.{IsWritable, command_text}
use Rattle.pulsar_commands.specs.Parts.{kind_of}
use Rattle.pulsar_frames.specs.declared.fault.FrameFault.{FrameFault}
use Rattle.pulsar_frames.specs.declared.fault.FrameFault.TheVariants as fault
use Rattle.pulsar_frames.specs.declared.frame.Body.{Body}
use Rattle.pulsar_frames.specs.declared.frame.Frame.{Frame}
use Rattle.pulsar_frames.specs.Counted.{counted}
use Rattle.pulsar_frames.specs.Layout.{Layout, BodyLayout, content_text, frame_limit, layout_text, Fits}
use Rattle.pulsar_frames.specs.Frames.{carries}

abbrev pub canonical_body : Body → BodyLayout
canonical_body b = record { meta = text (canonical_fields b.meta); payload = b.payload }

abbrev pub canonical_layout : Frame → Layout
canonical_layout f = record { command = command_text f.command; body = option_map canonical_body f.body }

-- the same, of a command's text and a message
abbrev pub with_body : List ℕ → Body → Layout
with_body command b = record { command = command; body = Some (canonical_body b) }

abbrev pub frame_text : Frame → List ℕ
frame_text f = layout_text (canonical_layout f)

-- the frame's total size, which does not count its own four bytes
abbrev pub frame_size : Frame → ℕ
frame_size f = length (content_text (canonical_layout f))

-- A message is there exactly where the command carries one.
abbrev pub IsComplete : Frame → Type 0
IsComplete f = is_some f.body ≡ carries (kind_of f.command)

-- what can be written
pub record IsWritableFrame (f : Frame) : Type 0 where
  pub command : IsWritable f.command
  pub carried : IsComplete f
  pub meta : IfSome f.body (λ b. IsMetadata b.meta)
  pub fits : Fits (canonical_layout f)

-- The size, which passes the limit, is the one thing that can be wrong; it is told by a number of 64 bits. Want of memory
-- says nothing of the frame.
abbrev pub IsTooLarge : ℕ → FrameFault → Type 0
IsTooLarge total (fault.TooLarge n) = (n ≡ counted total) × (frame_limit < total)
IsTooLarge total fault.Memory = Unit {0}
IsTooLarge total e = ⊥
