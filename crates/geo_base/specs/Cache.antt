-- The snapshots that a replicated subscription keeps, oldest first, until its mark-delete passes them (PIP-33).
use Rattle.std.specs.Prelude.{ℕ, nat_lt, ◌==◌, Bool, if◌then◌else◌, List, [], ◌∷◌, ◌++◌, length, drop, replicate, Option, Some, None, slice_set}
use Rattle.std.specs.List.{list_any}
use Rattle.geo_base.specs.Types.{CachedSnapshot, ClusterPosition, Cut, ClusterRef, Position}
use Rattle.geo_base.specs.Types.cluster_ref

-- Pulsar's default for the snapshots that a subscription keeps (replicatedSubscriptionsSnapshotMaxCachedPerSubscription)
abbrev pub most_cached : ℕ
most_cached = 10

-- one more snapshot; an eleventh pushes out the oldest
abbrev pub cached : List CachedSnapshot → CachedSnapshot → List CachedSnapshot
cached cs c = if nat_lt (length cs) most_cached then cs ++ c ∷ [] else drop 1 cs ++ c ∷ []

-- a mark-delete passes a snapshot where its local index is below it
abbrev pub any_passed : ℕ → List CachedSnapshot → Bool
any_passed mark cs = list_any (λ (c : CachedSnapshot). nat_lt c.index mark) cs

-- the last snapshot that a mark-delete passes
abbrev pub last_passed : ℕ → List CachedSnapshot → Option Cut
last_passed mark [] = None
last_passed mark (c ∷ cs) = if any_passed mark cs then last_passed mark cs else if nat_lt c.index mark then Some c.cut else None

-- what is left without that one and all before it
abbrev pub not_passed : ℕ → List CachedSnapshot → List CachedSnapshot
not_passed mark [] = []
not_passed mark (c ∷ cs) = if any_passed mark (c ∷ cs) then not_passed mark cs else c ∷ cs

-- a place that a marker names, put into the remote positions of a cut of the cluster own
abbrev pub with_place : ℕ → ClusterRef → Position → List (Option Position) → List (Option Position)
with_place own (cluster_ref.Known x) p ps = if x == own then ps else slice_set ps x (Some p)
with_place own (cluster_ref.Stranger n) p ps = ps

abbrev pub with_places : ℕ → List (Option Position) → List ClusterPosition → List (Option Position)
with_places own ps [] = ps
with_places own ps (r ∷ rs) = with_places own (with_place own r.cluster r.position ps) rs

-- the cut that a snapshot marker stands for, among n clusters: for each remote cluster the last position that it names;
-- other names are dropped
abbrev pub cut_of : ℕ → ℕ → Position → List ClusterPosition → Cut
cut_of own n local remote = record { local = local; remote = with_places own (replicate n None) remote }
