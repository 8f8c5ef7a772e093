use Rattle.std.proofs.Common.{refl}
use Rattle.pb_fields.proofs.Nested.{values_held}
use Rattle.marker_codec.specs.Table.{update_rows}
use Rattle.marker_codec.specs.Kinds.{RightCluster}
use Rattle.marker_codec.proofs.read.update_of.Goals as goal

pub clusters_of-requires : goal.clusters_of-requires
clusters_of-requires c = values_held RightCluster update_rows 2 _ c.args.fields.now refl refl c.requires.fit
