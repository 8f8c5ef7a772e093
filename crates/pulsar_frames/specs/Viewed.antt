-- The code's parts of a frame, without where they lie in memory.
use Rattle.std.specs.Option.{option_map}
use Rattle.pulsar_frames.specs.declared.layout.FrameParts.{FrameParts}
use Rattle.pulsar_frames.specs.declared.layout.BodyParts.{BodyParts}
use Rattle.pulsar_frames.specs.Layout.{Layout, BodyLayout}

abbrev pub body_layout : BodyParts → BodyLayout
body_layout b = record { meta = b.meta.now; payload = b.payload.now }

abbrev pub layout : FrameParts → Layout
layout p = record { command = p.command.now; body = option_map body_layout p.body }
