use Rattle.std.proofs.Common.{◌≡◌, map, take}
use Rattle.frame_values.specs.Values.{placed_cluster}
use Rattle.frame_values.proofs.content.add_placed.Given as goal

abbrev pub invariant-loop-cluster : goal.invariant-loop-cluster
invariant-loop-cluster l = l.placed ≡ map (λ c. placed_cluster l.names c) (take l.cluster-index l.clusters)
