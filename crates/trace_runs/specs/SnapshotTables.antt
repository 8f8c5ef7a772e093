-- A table of a topic's snapshot markers, by which an update's snapshot is told by one look-up.
use Rattle.std.specs.Prelude.{◌≡◌, ◌≤◌, ℕ, zero, suc, List, [], ◌∷◌, ◌++◌, length, take, Option, Some, if◌then◌else◌, slice_index_or}
use Rattle.std.specs.Map.{lookup}
use Rattle.std.specs.Str.{bytes_eq}
use Rattle.geo_base.specs.declared.entry.Entry.{Entry}
use Rattle.geo_base.specs.declared.marker.ClusterPosition.{ClusterPosition}
use Rattle.geo_base.specs.declared.position.Position.{Position}
use Rattle.geo_base.specs.Traced.{SnapshotAt, least_snapshot, snapshots_from}
use Rattle.geo_base.specs.Updating.{positions_for}
use Rattle.trace_runs.specs.Told.{lesser}

-- the positions that a marker names for a cluster: a one before each, and a zero after them
abbrev pub key_part : List Position → List ℕ
key_part [] = 0 ∷ []
key_part (p ∷ ps) = 1 ∷ p.ledger ∷ p.entry ∷ key_part ps

-- those for each of n clusters, and how many it names in all
abbrev pub positions_key : ℕ → List ClusterPosition → List ℕ
positions_key zero rs = length rs ∷ []
positions_key (suc n) rs = key_part (positions_for n rs) ++ positions_key n rs

abbrev pub snapshot_key : ℕ → ℕ → List ClusterPosition → List ℕ
snapshot_key own n rs = own ∷ positions_key n rs

-- a key with the snapshot that an update of it tells
abbrev pub Row : Type 0
Row = List ℕ × SnapshotAt

-- the rows, each key once, and how many entries of the topic were seen
pub record Snapshots : Type 0 where
  pub rows : List Row
  pub seen : ℕ

abbrev pub no_snapshots : Snapshots
no_snapshots = record { rows = []; seen = 0 }

abbrev pub least_at : List Row → List ℕ → Option SnapshotAt
least_at rows key = lookup (bytes_eq key) rows

-- rows after a snapshot is noted: an update of its key tells the lesser of it and the one before, and any other what it told
abbrev pub IsNoted : List Row → List Row → List ℕ → SnapshotAt → Type 0
IsNoted old new key k = (q : List ℕ) → least_at new q ≡ (if bytes_eq key q then Some (lesser (least_at old key) k) else least_at old q)

-- of n clusters: the rows tell of each update what a walk over these entries tells
pub record Tells (n : ℕ) (rows : List Row) (es : List Entry) : Type 0 where
  pub at : (own : ℕ) (remote : List ClusterPosition) → least_at rows (snapshot_key own n remote) ≡ least_snapshot (snapshots_from own n remote 0 es)

-- the table tells a beginning of a topic, as many entries as it has seen
pub record TellsBeginning (n : ℕ) (t : Snapshots) (es : List Entry) : Type 0 where
  pub within : t.seen ≤ length es
  pub tells : Tells n t.rows (take t.seen es)

-- the table of a broker among all; one of which nothing was asked has seen nothing
abbrev pub table_at : List Snapshots → ℕ → Snapshots
table_at ts k = slice_index_or ts k no_snapshots
