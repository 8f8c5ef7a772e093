use Rattle.std.proofs.Common.{◌≡◌, map, take}
use Rattle.marker_codec.specs.Machine.{named_cluster}
use Rattle.frame_values.proofs.content.named_clusters.Given as goal

abbrev pub invariant-loop-cluster : goal.invariant-loop-cluster
invariant-loop-cluster l = l.named ≡ map (λ c. named_cluster l.names c) (take l.cluster-index l.clusters)
