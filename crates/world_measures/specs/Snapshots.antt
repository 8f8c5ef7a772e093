-- What snapshot and update markers say.
use Rattle.std.specs.Prelude.{◌≡◌, ℕ, ⊤, List, Option, Some, None, slice_get}
use Rattle.geo_base.specs.declared.entry.Content.{Content}
use Rattle.geo_base.specs.declared.entry.Content.TheVariants as content
use Rattle.geo_base.specs.declared.entry.Entry.{Entry}
use Rattle.geo_base.specs.declared.marker.ClusterPosition.{ClusterPosition}
use Rattle.geo_base.specs.declared.marker.Marker.TheVariants as marker
use Rattle.geo_base.specs.declared.position.Position.{Position}
use Rattle.loss_laws.specs.Lost.{update_in}

abbrev pub IsUpdate : Content → List ℕ → List ClusterPosition → Type 0
IsUpdate (content.Marked (marker.Update m remote)) n rs = (m ≡ n) × (remote ≡ rs)
IsUpdate c n rs = ⊥

abbrev pub IsNoUpdate : Content → Type 0
IsNoUpdate (content.Marked (marker.Update m remote)) = ⊥
IsNoUpdate c = ⊤

abbrev pub IsSnapshot : Content → Position → List ClusterPosition → Type 0
IsSnapshot (content.Marked (marker.Snapshot id local remote)) p rs = (local ≡ p) × (remote ≡ rs)
IsSnapshot c p rs = ⊥

abbrev pub IsNoSnapshot : Content → Type 0
IsNoSnapshot (content.Marked (marker.Snapshot id local remote)) = ⊥
IsNoSnapshot c = ⊤

-- what the entry at an index names, if it is an update of x for subscription n
abbrev pub told_by : ℕ → List ℕ → Option Entry → Option (List ClusterPosition)
told_by x n None = None
told_by x n (Some e) = update_in x n e e.content

abbrev pub told_at : ℕ → List ℕ → List Entry → Option ℕ → Option (List ClusterPosition)
told_at x n es None = None
told_at x n es (Some i) = told_by x n (slice_get es i)
