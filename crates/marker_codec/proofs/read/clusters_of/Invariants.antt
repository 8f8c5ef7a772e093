use Rattle.std.proofs.Common.{take}
use Rattle.pb_fields.specs.Message.{values}
use Rattle.marker_codec.specs.Markers.{AreClusters}
use Rattle.marker_codec.proofs.read.clusters_of.Given as goal

abbrev pub invariant-loop-field : goal.invariant-loop-field
invariant-loop-field l = AreClusters (values l.number (take l.field-index l.fields)) l.clusters
