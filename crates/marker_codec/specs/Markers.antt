-- The markers of replicated subscriptions as bytes (PIP-33, PulsarMarkers.proto).
--
-- A marker here is what the bytes say, clusters by the names that they have there. The written machine's marker (Marker
-- of geo_base) is the same with each name that a cluster has replaced by the cluster's number; Machine says how.
use Rattle.std.specs.Prelude.{◌≡◌, ℕ, List, [], ◌∷◌, Some}
use Rattle.geo_base.specs.declared.position.Position.{Position}
use Rattle.pb_fields.specs.declared.field.Field.{Field}
use Rattle.pb_fields.specs.declared.field.Value.{Value}
use Rattle.pb_fields.specs.declared.field.Value.TheVariants as value
use Rattle.pb_fields.specs.Text.{IsText}
use Rattle.pb_fields.specs.Message.{values, last_value}
use Rattle.pb_fields.specs.Embedded.{IsMessageWith, AnyContent}
use Rattle.marker_codec.specs.declared.marker.Marker.{Marker}
use Rattle.marker_codec.specs.declared.marker.Marker.TheVariants as marker
use Rattle.marker_codec.specs.declared.marker.ClusterMessageId.{ClusterMessageId}
use Rattle.marker_codec.specs.Table as field
use Rattle.marker_codec.specs.Table.{cluster_rows, position_rows}
use Rattle.marker_codec.specs.Kinds.{kind_number, kind_rows, marker_kind, RightPosition, RightPart}

-- a MarkersMessageIdData
pub record SaysPosition (fields : List Field) (p : Position) : Type 0 where
  pub ledger_id : last_value field.ledger_id fields ≡ Some (value.Varint p.ledger)
  pub entry_id : last_value field.entry_id fields ≡ Some (value.Varint p.entry)

pub record IsPositionText (bytes : List ℕ) (p : Position) : Type 0 where
  pub fields : List Field
  pub text : IsText bytes fields
  pub message : IsMessageWith AnyContent position_rows fields
  pub says : SaysPosition fields p

-- The last value of a number counts, and its content is as P says.
pub record LastHolds (number : ℕ) (fields : List Field) (P : List ℕ → Type 0) : Type 0 where
  pub content : List ℕ
  pub last : last_value number fields ≡ Some (value.Bytes content)
  pub means : P content

-- a ClusterMessageId
pub record SaysCluster (fields : List Field) (c : ClusterMessageId) : Type 0 where
  pub cluster : last_value field.cluster fields ≡ Some (value.Bytes c.cluster)
  pub message_id : LastHolds field.message_id fields (λ content. IsPositionText content c.message_id)

pub record IsClusterText (bytes : List ℕ) (c : ClusterMessageId) : Type 0 where
  pub fields : List Field
  pub text : IsText bytes fields
  pub message : IsMessageWith RightPosition cluster_rows fields
  pub says : SaysCluster fields c

pub record HoldsCluster (v : Value) (c : ClusterMessageId) : Type 0 where
  pub content : List ℕ
  pub is : v ≡ value.Bytes content
  pub means : IsClusterText content c

-- one ClusterMessageId a value, in order
abbrev pub AreClusters : List Value → List ClusterMessageId → Type 0
AreClusters [] [] = Unit {0}
AreClusters (v ∷ vs) (c ∷ cs) = HoldsCluster v c × AreClusters vs cs
AreClusters vs cs = ⊥

-- ---- what the fields of a marker say

pub record SaysRequest (fields : List Field) (id source : List ℕ) : Type 0 where
  pub snapshot_id : last_value field.snapshot_id fields ≡ Some (value.Bytes id)
  pub source_cluster : last_value field.source_cluster fields ≡ Some (value.Bytes source)

pub record SaysResponse (fields : List Field) (id : List ℕ) (answer : ClusterMessageId) : Type 0 where
  pub snapshot_id : last_value field.snapshot_id fields ≡ Some (value.Bytes id)
  pub cluster : LastHolds field.response_cluster fields (λ content. IsClusterText content answer)

pub record SaysSnapshot (fields : List Field) (id : List ℕ) (local : Position) (remote : List ClusterMessageId) : Type 0 where
  pub snapshot_id : last_value field.snapshot_id fields ≡ Some (value.Bytes id)
  pub local_message_id : LastHolds field.local_message_id fields (λ content. IsPositionText content local)
  pub clusters : AreClusters (values field.snapshot_clusters fields) remote

pub record SaysUpdate (fields : List Field) (name : List ℕ) (remote : List ClusterMessageId) : Type 0 where
  pub subscription_name : last_value field.subscription_name fields ≡ Some (value.Bytes name)
  pub clusters : AreClusters (values field.update_clusters fields) remote

abbrev pub Says : List Field → Marker → Type 0
Says fields (marker.Request id source) = SaysRequest fields id source
Says fields (marker.Response id cluster) = SaysResponse fields id cluster
Says fields (marker.Snapshot id local clusters) = SaysSnapshot fields id local clusters
Says fields (marker.Update name clusters) = SaysUpdate fields name clusters

-- Fields are a marker's: each fits its kind's table, embedded messages that a later one replaces included, no required
-- one is absent, and they say it.
pub record MeansMarker (fields : List Field) (m : Marker) : Type 0 where
  pub message : IsMessageWith (RightPart (marker_kind m)) (kind_rows (marker_kind m)) fields
  pub says : Says fields m

-- The bytes are a text of the marker, whose kind the number is.
pub record IsMarkerText (number : ℕ) (bytes : List ℕ) (m : Marker) : Type 0 where
  pub kind : number ≡ kind_number (marker_kind m)
  pub fields : List Field
  pub text : IsText bytes fields
  pub means : MeansMarker fields m
