-- The names that a script declares, as far as a trace names them.
use Rattle.std.specs.Prelude.{◌≡◌, ℕ, ◌≤◌, List, length}
use Rattle.geo_base.specs.Scripted.{most_clusters}

-- of clusters and of topics, each numbered from 0 in the script's order
pub record DeclaredNames : Type 0 where
  pub clusters : List (List ℕ)
  pub topics : List (List ℕ)

-- the table of the clusters has the clusters' names, and there are few
pub record HasClusters (table names : List (List ℕ)) : Type 0 where
  pub same : table ≡ names
  pub few : length names ≤ most_clusters
