-- The kinds of markers (PulsarMarkers.proto, as known and not looked up), the fields of each, and what these hold.
use Rattle.std.specs.Prelude.{◌≡◌, ◌≢◌, ℕ, List}
use Rattle.pb_fields.specs.declared.message.Row.{Row}
use Rattle.pb_fields.specs.declared.message.MessageFault.{MessageFault}
use Rattle.pb_fields.specs.Embedded.{IsMessageText, WrongMessageWith, AnyContent, NoFault}
use Rattle.marker_codec.specs.declared.kind.MarkerKind.{MarkerKind}
use Rattle.marker_codec.specs.declared.kind.MarkerKind.TheVariants as kind
use Rattle.marker_codec.specs.declared.marker.Marker.{Marker}
use Rattle.marker_codec.specs.declared.marker.Marker.TheVariants as marker
use Rattle.marker_codec.specs.Table as field
use Rattle.marker_codec.specs.Table.{request_rows, response_rows, snapshot_rows, update_rows, cluster_rows, position_rows}

-- the number of the kind, which the metadata of a marker's entry names (marker_type)
abbrev pub kind_number : MarkerKind → ℕ
kind_number kind.Request = 10
kind_number kind.Response = 11
kind_number kind.Snapshot = 12
kind_number kind.Update = 13

abbrev pub kind_rows : MarkerKind → List Row
kind_rows kind.Request = request_rows
kind_rows kind.Response = response_rows
kind_rows kind.Snapshot = snapshot_rows
kind_rows kind.Update = update_rows

abbrev pub marker_kind : Marker → MarkerKind
marker_kind (marker.Request id source) = kind.Request
marker_kind (marker.Response id cluster) = kind.Response
marker_kind (marker.Snapshot id local clusters) = kind.Snapshot
marker_kind (marker.Update name clusters) = kind.Update

-- ---- embedded messages

-- a MarkersMessageIdData
abbrev pub RightPosition : ℕ → List ℕ → Type 0
RightPosition number = IsMessageText AnyContent position_rows

abbrev pub WrongPosition : ℕ → List ℕ → MessageFault → Type 0
WrongPosition number = WrongMessageWith AnyContent NoFault position_rows

-- a ClusterMessageId, which holds a MarkersMessageIdData
abbrev pub RightCluster : ℕ → List ℕ → Type 0
RightCluster number = IsMessageText RightPosition cluster_rows

abbrev pub WrongCluster : ℕ → List ℕ → MessageFault → Type 0
WrongCluster number = WrongMessageWith RightPosition WrongPosition cluster_rows

-- A snapshot holds the own position in one field, and the clusters' in the other.
pub record RightInSnapshot (number : ℕ) (content : List ℕ) : Type 0 where
  pub local : number ≡ field.local_message_id → RightPosition number content
  pub clusters : number ≢ field.local_message_id → RightCluster number content

pub data WrongInSnapshot (number : ℕ) (content : List ℕ) (e : MessageFault) : Type 0 where
  local : number ≡ field.local_message_id → WrongPosition number content e → WrongInSnapshot number content e
  clusters : number ≢ field.local_message_id → WrongCluster number content e → WrongInSnapshot number content e

-- which contents of the embedded messages of a kind are right, and what is wrong with the others
abbrev pub RightPart : MarkerKind → ℕ → List ℕ → Type 0
RightPart kind.Request = AnyContent
RightPart kind.Response = RightCluster
RightPart kind.Snapshot = RightInSnapshot
RightPart kind.Update = RightCluster

abbrev pub WrongPart : MarkerKind → ℕ → List ℕ → MessageFault → Type 0
WrongPart kind.Request = NoFault
WrongPart kind.Response = WrongCluster
WrongPart kind.Snapshot = WrongInSnapshot
WrongPart kind.Update = WrongCluster
