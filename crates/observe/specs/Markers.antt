-- Snapshots and updates among the contents of entries.
use Rattle.std.specs.Prelude.{◌≡◌, ℕ, List}
use Rattle.geo_base.specs.declared.entry.Content.{Content}
use Rattle.geo_base.specs.declared.entry.Content.TheVariants as content
use Rattle.geo_base.specs.declared.marker.ClusterPosition.{ClusterPosition}
use Rattle.geo_base.specs.declared.marker.Marker.TheVariants as marker
use Rattle.geo_base.specs.declared.position.Position.{Position}

pub record IsSnapshot (c : Content) (local : Position) (remote : List ClusterPosition) : Type 0 where
  pub id : List ℕ
  pub is : c ≡ content.Marked (marker.Snapshot id local remote)

abbrev pub IsNoSnapshot : Content → Type 0
IsNoSnapshot (content.Marked (marker.Snapshot id local remote)) = ⊥
IsNoSnapshot c = Unit

abbrev pub IsUpdate : Content → List ℕ → List ClusterPosition → Type 0
IsUpdate c n remote = c ≡ content.Marked (marker.Update n remote)

abbrev pub IsNoUpdate : Content → Type 0
IsNoUpdate (content.Marked (marker.Update n remote)) = ⊥
IsNoUpdate c = Unit
