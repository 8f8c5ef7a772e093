-- The canonical text of a marker.
use Rattle.std.specs.Prelude.{List, [], ◌∷◌, ℕ, map, IsUtf8}
use Rattle.std.specs.List.{AllByRecursion}
use Rattle.geo_base.specs.declared.position.Position.{Position}
use Rattle.pb_fields.specs.declared.field.Field.{Field}
use Rattle.pb_fields.specs.Field.{varint_field, bytes_field, IsField}
use Rattle.pb_fields.specs.Canonical.{text}
use Rattle.marker_codec.specs.declared.marker.Marker.{Marker}
use Rattle.marker_codec.specs.declared.marker.Marker.TheVariants as marker
use Rattle.marker_codec.specs.declared.marker.ClusterMessageId.{ClusterMessageId}
use Rattle.marker_codec.specs.Table as field

-- Fields stand by ascending number, a list in its order. An embedded message is its own canonical text.
abbrev pub position_fields : Position → List Field
position_fields p = varint_field field.ledger_id p.ledger ∷ varint_field field.entry_id p.entry ∷ []

abbrev pub cluster_fields : ClusterMessageId → List Field
cluster_fields c = bytes_field field.cluster c.cluster ∷ bytes_field field.message_id (text (position_fields c.message_id)) ∷ []

abbrev pub clusters_fields : ℕ → List ClusterMessageId → List Field
clusters_fields number clusters = map (λ c. bytes_field number (text (cluster_fields c))) clusters

abbrev pub canonical_fields : Marker → List Field
canonical_fields (marker.Request id source) = bytes_field field.snapshot_id id ∷ bytes_field field.source_cluster source ∷ []
canonical_fields (marker.Response id cluster) = bytes_field field.snapshot_id id ∷ bytes_field field.response_cluster (text (cluster_fields cluster)) ∷ []
canonical_fields (marker.Snapshot id local clusters) = bytes_field field.snapshot_id id ∷ bytes_field field.local_message_id (text (position_fields local)) ∷ clusters_fields field.snapshot_clusters clusters
canonical_fields (marker.Update name clusters) = bytes_field field.subscription_name name ∷ clusters_fields field.update_clusters clusters

-- What can be written: numbers and lengths have 64 bits, texts are UTF-8.
abbrev pub IsPosition : Position → Type 0
IsPosition p = AllByRecursion IsField (position_fields p)

pub record IsCluster (c : ClusterMessageId) : Type 0 where
  pub fields : AllByRecursion IsField (cluster_fields c)
  pub cluster : IsUtf8 c.cluster
  pub message_id : IsPosition c.message_id

-- the texts and the embedded messages of a marker
abbrev pub HasGoodParts : Marker → Type 0
HasGoodParts (marker.Request id source) = IsUtf8 id × IsUtf8 source
HasGoodParts (marker.Response id cluster) = IsUtf8 id × IsCluster cluster
HasGoodParts (marker.Snapshot id local clusters) = IsUtf8 id × IsPosition local × AllByRecursion IsCluster clusters
HasGoodParts (marker.Update name clusters) = IsUtf8 name × AllByRecursion IsCluster clusters

pub record IsMarker (m : Marker) : Type 0 where
  pub fields : AllByRecursion IsField (canonical_fields m)
  pub parts : HasGoodParts m
