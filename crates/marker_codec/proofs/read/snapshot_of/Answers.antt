use Rattle.std.proofs.Common.{refl, arith}
use Rattle.pb_fields.specs.Message.{values}
use Rattle.pb_fields.proofs.Nested.{values_held}
use Rattle.marker_codec.specs.Table.{snapshot_rows}
use Rattle.marker_codec.specs.Kinds.{RightCluster, RightInSnapshot}
use Rattle.marker_codec.proofs.Clusters.{all_held}
use Rattle.marker_codec.proofs.read.snapshot_of.Goals as goal

pub clusters_of-requires : goal.clusters_of-requires
clusters_of-requires c =
    all_held (RightInSnapshot 3) (RightCluster 0) (values 3 c.args.fields.now) (λ content h. h.clusters (λ e. omega arith))
    (values_held RightInSnapshot snapshot_rows 3 _ c.args.fields.now refl refl c.requires.fit)
