-- The written machine's markers (geo_base) as markers that can be written: where the machine has a cluster's number, the
-- bytes have the cluster's name. All else is the same in both.
use Rattle.std.specs.Prelude.{List, ℕ, map}
use Rattle.geo_base.specs.declared.marker.ClusterPosition.{ClusterPosition}
use Rattle.geo_base.specs.declared.marker.Marker.{Marker as MachineMarker}
use Rattle.geo_base.specs.declared.marker.Marker.TheVariants as machine
use Rattle.geo_base.specs.Sizes.{cluster_ref_name}
use Rattle.marker_codec.specs.declared.marker.ClusterMessageId.{ClusterMessageId}
use Rattle.marker_codec.specs.declared.marker.Marker.{Marker}
use Rattle.marker_codec.specs.declared.marker.Marker.TheVariants as marker

abbrev pub named_cluster : List (List ℕ) → ClusterPosition → ClusterMessageId
named_cluster names r = record { cluster = cluster_ref_name names r.cluster; message_id = r.position }

-- names are those of the clusters, by their numbers
abbrev pub named_marker : List (List ℕ) → MachineMarker → Marker
named_marker names (machine.Request id source) = marker.Request id (cluster_ref_name names source)
named_marker names (machine.Response id answer) = marker.Response id (named_cluster names answer)
named_marker names (machine.Snapshot id local remote) = marker.Snapshot id local (map (λ r. named_cluster names r) remote)
named_marker names (machine.Update sub remote) = marker.Update sub (map (λ r. named_cluster names r) remote)
