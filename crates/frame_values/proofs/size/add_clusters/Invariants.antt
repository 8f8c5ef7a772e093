use Rattle.std.proofs.Common.{◌≡◌, ◌+◌, ◌^◌, ◌<◌, drop}
use Rattle.geo_base.specs.Sizes.{cluster_positions}
use Rattle.pulsar_frames.specs.Counted.{counted}
use Rattle.frame_values.proofs.size.add_clusters.Given as goal

abbrev pub invariant-loop-cluster : goal.invariant-loop-cluster
invariant-loop-cluster l = (l.sum < 2 ^ 64) × (counted (l.sum + cluster_positions l.names l.field (drop l.cluster-index l.clusters)) ≡ counted (l.size + cluster_positions l.names l.field l.clusters))
