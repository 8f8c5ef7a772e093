use Rattle.std.proofs.Common.{◌≡◌, ◌+◌, List, [], drop, ap, sym, ◌∙◌, arith}
use Rattle.geo_base.specs.declared.marker.ClusterPosition.{ClusterPosition}
use Rattle.geo_base.specs.Sizes.{cluster_positions}
use Rattle.pulsar_frames.specs.Counted.{counted}
use Rattle.frame_values.proofs.Counting.{ended, none_left}
use Rattle.frame_values.proofs.size.add_clusters.Goals as goal

pub returns : goal.returns
returns c =
    let none : drop c.loop-cluster.cluster-index c.args.clusters.now ≡ [] = none_left c.loop-cluster.cluster-index c.args.clusters.now (omega arith) in
    let left : counted (c.loop-cluster.sum + 0) ≡ counted (c.args.size + cluster_positions c.args.names.now c.args.field c.args.clusters.now) =
    ap (λ (rs : List ClusterPosition). counted (c.loop-cluster.sum + cluster_positions c.args.names.now c.args.field rs)) (sym none) ∙ c.loop-cluster.invariant.1 in
    ended c.loop-cluster.sum _ c.loop-cluster.invariant.0 left
