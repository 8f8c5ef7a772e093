use Rattle.std.proofs.Common.{◌≡◌, ◌++◌, take}
use Rattle.std.specs.List.{AllByRecursion}
use Rattle.pb_fields.specs.Field.{IsField}
use Rattle.pb_fields.specs.Canonical.{text}
use Rattle.marker_codec.specs.Canonical.{clusters_fields, IsCluster}
use Rattle.marker_codec.proofs.write.append_clusters.Given as goal

abbrev pub invariant-loop-cluster : goal.invariant-loop-cluster
invariant-loop-cluster l = record {
  so_far : l.out ≡ l.fn.out ++ text (clusters_fields l.number (take l.cluster-index l.cluster-items));
  fields : AllByRecursion IsField (clusters_fields l.number (take l.cluster-index l.cluster-items));
  clusters : AllByRecursion IsCluster (take l.cluster-index l.cluster-items);
}
