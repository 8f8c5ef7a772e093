-- Where a line of a trace stands.
use Rattle.std.specs.Prelude.{ℕ, List, [], ◌++◌, ◌∷◌}
use Rattle.geo_base.specs.Report.{words}
use Rattle.geo_base.specs.Setup.{Setup}
use Rattle.geo_base.specs.TraceItems.{Act}
use Rattle.geo_base.specs.TraceText.{act_words}

-- a topic at a cluster by their names, with the names of all clusters
pub record Naming : Type 0 where
  pub clusters : List (List ℕ)
  pub topic : List ℕ
  pub cluster : List ℕ

-- a setup of which a line tells only the names of its clusters
abbrev pub with_clusters : List (List ℕ) → Setup
with_clusters names = record { per_ledger = 0; clusters = names; topics = []; clients = [] }

-- the line of a write there, with its line feed
abbrev pub act_line : Naming → Act → List ℕ
act_line n a = words (act_words (with_clusters n.clusters) n.topic n.cluster a) ++ 10 ∷ []
