use Rattle.marker_codec.proofs.Clusters.{held_right, held_cluster}
use Rattle.marker_codec.proofs.read.cluster_of_value.Goals as goal

pub cluster_of-requires : goal.cluster_of-requires
cluster_of-requires c = held_right c.args.value.now c.in-Some.content.now c.requires c.in-Some.ensures

pub returns : goal.returns
returns c = held_cluster c.args.value.now c.in-Some.content.now c.cluster_of.result c.in-Some.ensures c.cluster_of.ensures

pub unreachable-requires : goal.unreachable-requires
unreachable-requires c = c.in-None.ensures c.requires.content c.requires.is
