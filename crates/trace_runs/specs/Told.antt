-- The snapshot that an update tells.
use Rattle.std.specs.Prelude.{◌≡◌, ℕ, ◌==◌, if◌then◌else◌, List, Option, Some, None, ⊤}
use Rattle.geo_base.specs.declared.entry.Content.{Content}
use Rattle.geo_base.specs.declared.entry.Content.TheVariants as content
use Rattle.geo_base.specs.declared.entry.Entry.{Entry}
use Rattle.geo_base.specs.declared.marker.ClusterPosition.{ClusterPosition}
use Rattle.geo_base.specs.declared.marker.Marker.TheVariants as marker
use Rattle.geo_base.specs.declared.position.Position.{Position}
use Rattle.geo_base.specs.Position.{position_lt}
use Rattle.geo_base.specs.Traced.{SnapshotAt, least_snapshot, snapshot_position, snapshots_from}

-- of an update of the own cluster, one of n, in a topic of these entries
abbrev pub told_by : ℕ → ℕ → List ℕ → List Entry → Entry → Content → Option Position
told_by own n ledgers es e (content.Marked (marker.Update m remote)) =
    if e.ident.origin == own then snapshot_position ledgers (least_snapshot (snapshots_from own n remote 0 es)) else None
told_by own n ledgers es e c = None

-- the lesser of a snapshot and one before it
abbrev pub lesser : Option SnapshotAt → SnapshotAt → SnapshotAt
lesser None k = k
lesser (Some m) k = if position_lt k.local m.local then k else m

-- what a marker names
abbrev pub IsUpdate : Content → List ClusterPosition → Type 0
IsUpdate (content.Marked (marker.Update m remote)) rs = remote ≡ rs
IsUpdate c rs = ⊥

abbrev pub IsNoUpdate : Content → Type 0
IsNoUpdate (content.Marked (marker.Update m remote)) = ⊥
IsNoUpdate c = ⊤

abbrev pub IsSnapshot : Content → Position → List ClusterPosition → Type 0
IsSnapshot (content.Marked (marker.Snapshot id local remote)) p rs = (local ≡ p) × (remote ≡ rs)
IsSnapshot c p rs = ⊥

abbrev pub IsNoSnapshot : Content → Type 0
IsNoSnapshot (content.Marked (marker.Snapshot id local remote)) = ⊥
IsNoSnapshot c = ⊤
