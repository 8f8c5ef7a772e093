-- Plain values: what scripts and brokers make of themselves. A list of targets names clusters by their names and in their
-- order, a place is a cluster, a marker is its canonical text, and no field stands beside those that are read.
use Rattle.std.specs.Prelude.{◌≡◌, ℕ, ◌<◌, true, List, [], length, Option, IfSome}
use Rattle.std.specs.List.{AllByRecursion}
use Rattle.geo_base.specs.declared.entry.Content.{Content}
use Rattle.geo_base.specs.declared.entry.Content.TheVariants as content
use Rattle.geo_base.specs.declared.entry.Entry.{Entry}
use Rattle.geo_base.specs.declared.frame.Frame.{Frame}
use Rattle.geo_base.specs.declared.frame.Frame.TheVariants as frame
use Rattle.geo_base.specs.declared.marker.ClusterPosition.{ClusterPosition}
use Rattle.geo_base.specs.declared.marker.Marker.{Marker}
use Rattle.geo_base.specs.declared.marker.Marker.TheVariants as marker
use Rattle.geo_base.specs.declared.marker.ClusterRef.{ClusterRef}
use Rattle.geo_base.specs.declared.marker.ClusterRef.TheVariants as cluster_ref
use Rattle.geo_base.specs.Client.{target_names}
use Rattle.geo_base.specs.Scripted.{names_some}

-- a place is a cluster of these names
abbrev pub IsCluster : List (List ℕ) → ClusterRef → Type 0
IsCluster names (cluster_ref.Known x) = x < length names
IsCluster names (cluster_ref.Stranger n) = ⊥

abbrev pub AreClusters : List (List ℕ) → List ClusterPosition → Type 0
AreClusters names rs = AllByRecursion (λ (r : ClusterPosition). IsCluster names r.cluster) rs

abbrev pub HasClusters : List (List ℕ) → Marker → Type 0
HasClusters names (marker.Request id source) = IsCluster names source
HasClusters names (marker.Response id answer) = IsCluster names answer.cluster
HasClusters names (marker.Snapshot id local remote) = AreClusters names remote
HasClusters names (marker.Update sub remote) = AreClusters names remote

abbrev pub IsPlainContent : List (List ℕ) → Content → List ℕ → Type 0
IsPlainContent names content.Data payload = Unit {0}
IsPlainContent names (content.Marked m) [] = HasClusters names m
IsPlainContent names c payload = ⊥

pub record IsPlainEntry (names : List (List ℕ)) (source : Option ClusterRef) (e : Entry) : Type 0 where
  pub listed : e.meta.names ≡ target_names 0 e.to names
  pub some : names_some (length names) e.to ≡ true
  pub from : IfSome source (IsCluster names)
  pub content : IsPlainContent names e.content e.payload
  pub rest : e.meta.rest ≡ []

abbrev pub IsPlain : List (List ℕ) → Frame → Type 0
IsPlain names (frame.Send id seq source e) = IsPlainEntry names source e
IsPlain names (frame.Message id position source e) = IsPlainEntry names source e
IsPlain names frame.Unreadable = ⊥
IsPlain names f = Unit {0}
