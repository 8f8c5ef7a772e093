-- Snapshots of replicated subscriptions (PIP-33): a request and its answers, and what a cluster does with a marker of another
-- one that its replicator reads.
use Rattle.std.specs.Prelude.{ℕ, ◌-◌, ◌^◌, ◌&&◌, if◌then◌else◌, List, [], ◌∷◌, length, Option, Some, None, is_none}
use Rattle.std.specs.List.{list_any}
use Rattle.geo_base.specs.Types.{SnapshotBuilder, ClusterPosition, Content, Entry, Marker, Progress}
use Rattle.geo_base.specs.Types.change
use Rattle.geo_base.specs.Types.content
use Rattle.geo_base.specs.Types.marker
use Rattle.geo_base.specs.Types.cluster_ref
use Rattle.geo_base.specs.Types.progress
use Rattle.geo_base.specs.Types.targets
use Rattle.geo_base.specs.Types.write
use Rattle.geo_base.specs.Broker.{Broker, Site, cluster_name}
use Rattle.geo_base.specs.SnapshotBuilder.{Heard, current_id, named, on_response, snapshot_id, started}
use Rattle.geo_base.specs.Entry.{means_cluster}
use Rattle.geo_base.specs.Plan.{Plan, idle_plan, plan_of}
use Rattle.geo_base.specs.Storing.{own_marker}
use Rattle.geo_base.specs.Subscription.{Subscription}
use Rattle.geo_base.specs.Topic.{next_position, position_at}
use Rattle.geo_base.specs.Updating.{handled, read_update}

-- a request goes to all clusters, its answer to the one that asked, and the snapshot stays with the cluster that made it
abbrev pub request_marker : Site → Broker → List ℕ → Entry
request_marker h b id = own_marker h b (marker.Request id (cluster_ref.Known h.own)) targets.All []

-- the answer names the last entry that was stored before it
abbrev pub response_marker : Site → Broker → ℕ → List ℕ → Entry
response_marker h b y id =
    own_marker h b (marker.Response id (record { cluster = cluster_ref.Known h.own; position = position_at b.ledgers (length b.entries - 1) }))
    (targets.Only (2 ^ y)) (cluster_name h y ∷ [])

abbrev pub snapshot_marker : Site → Broker → SnapshotBuilder → Entry
snapshot_marker h b u = own_marker h b (marker.Snapshot u.id u.cut.local (named u.cut)) (targets.Only (2 ^ h.own)) (cluster_name h h.own ∷ [])

-- snap: a request, and a builder in round one; only where a subscription is replicated and no snapshot is being made
abbrev pub asks : Site → Broker → List ℕ → Plan
asks h b id = plan_of (write.Append (request_marker h b id) ∷ []) (change.Building (Some (started id h.own (length h.clusters))) ∷ []) []

unfoldable pub snap : Site → Broker → Plan
snap h b =
    if list_any (λ (s : Subscription). s.replicated) b.subs && is_none b.builder
    then asks h b (snapshot_id (cluster_name h h.own) (next_position h.per_ledger b.ledgers))
    else idle_plan

-- a response of y at index i has come to this: nothing, it counts, a second request, the snapshot
abbrev pub after_response : Site → Broker → ℕ → ℕ → Progress → SnapshotBuilder → Plan
after_response h b y i progress.Ignored u = handled y i [] []
after_response h b y i progress.Kept u = handled y i [] (change.Building (Some u) ∷ [])
after_response h b y i progress.SecondRound u = handled y i (write.Append (request_marker h b (current_id u)) ∷ []) (change.Building (Some u) ∷ [])
after_response h b y i progress.Done u = handled y i (write.Append (snapshot_marker h b u) ∷ []) (change.Building None ∷ [])

abbrev pub heard_from : Site → Broker → ℕ → ℕ → Heard → Plan
heard_from h b y i r = after_response h b y i r.progress r.builder

-- a response that names another cluster than y has no effect
abbrev pub read_response : Site → Broker → ℕ → ℕ → List ℕ → ClusterPosition → Option SnapshotBuilder → Plan
read_response h b y i id answer None = handled y i [] []
read_response h b y i id answer (Some u) =
    if means_cluster y answer.cluster then heard_from h b y i (on_response u id y answer.position (position_at b.ledgers i)) else handled y i [] []

-- a marker of y at index i. Its snapshots are its own affair
abbrev pub read_marker : Site → Broker → ℕ → ℕ → Marker → Plan
read_marker h b y i (marker.Request id source) = handled y i (write.Append (response_marker h b y id) ∷ []) []
read_marker h b y i (marker.Response id answer) = read_response h b y i id answer b.builder
read_marker h b y i (marker.Snapshot id local remote) = handled y i [] []
read_marker h b y i (marker.Update n remote) = read_update h b y i n remote

abbrev pub read_content : Site → Broker → ℕ → ℕ → Content → Plan
read_content h b y i (content.Marked m) = read_marker h b y i m
read_content h b y i content.Data = handled y i [] []
read_content h b y i (content.Unread kind) = handled y i [] []
