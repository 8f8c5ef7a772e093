-- The fields of the messages of PulsarMarkers.proto, with its numbers and types. In this project every field that is not
-- repeated is required (own).
use Rattle.std.specs.Prelude.{ℕ, true, false, List, [], ◌∷◌}
use Rattle.pb_fields.specs.declared.message.Form.{Form}
use Rattle.pb_fields.specs.declared.message.Form.TheVariants as form
use Rattle.pb_fields.specs.declared.message.Row.{Row}

abbrev pub required : ℕ → Form → Row
required n f = record { number = n; form = f; required = true }

abbrev pub optional : ℕ → Form → Row
optional n f = record { number = n; form = f; required = false }

-- ---- MarkersMessageIdData

abbrev pub ledger_id : ℕ
ledger_id = 1

abbrev pub entry_id : ℕ
entry_id = 2

abbrev pub position_rows : List Row
position_rows = required ledger_id form.Varint ∷ required entry_id form.Varint ∷ []

-- ---- ClusterMessageId

abbrev pub cluster : ℕ
cluster = 1

abbrev pub message_id : ℕ
message_id = 2

abbrev pub cluster_rows : List Row
cluster_rows = required cluster form.Text ∷ required message_id form.Message ∷ []

-- ---- the name of a snapshot, in ReplicatedSubscriptionsSnapshotRequest, ..Response and ReplicatedSubscriptionsSnapshot

abbrev pub snapshot_id : ℕ
snapshot_id = 1

-- ---- ReplicatedSubscriptionsSnapshotRequest

abbrev pub source_cluster : ℕ
source_cluster = 2

abbrev pub request_rows : List Row
request_rows = required snapshot_id form.Text ∷ required source_cluster form.Text ∷ []

-- ---- ReplicatedSubscriptionsSnapshotResponse: cluster

abbrev pub response_cluster : ℕ
response_cluster = 2

abbrev pub response_rows : List Row
response_rows = required snapshot_id form.Text ∷ required response_cluster form.Message ∷ []

-- ---- ReplicatedSubscriptionsSnapshot: local_message_id, and clusters, which is repeated

abbrev pub local_message_id : ℕ
local_message_id = 2

abbrev pub snapshot_clusters : ℕ
snapshot_clusters = 3

abbrev pub snapshot_rows : List Row
snapshot_rows = required snapshot_id form.Text ∷ required local_message_id form.Message ∷ optional snapshot_clusters form.Message ∷ []

-- ---- ReplicatedSubscriptionsUpdate: subscription_name, and clusters, which is repeated

abbrev pub subscription_name : ℕ
subscription_name = 1

abbrev pub update_clusters : ℕ
update_clusters = 2

abbrev pub update_rows : List Row
update_rows = required subscription_name form.Text ∷ optional update_clusters form.Message ∷ []
