-- What a broker knows of the setup, as it is kept: few clusters, and short names.
use Rattle.std.specs.Prelude.{ℕ, ◌<◌, ◌≤◌, List, length}
use Rattle.std.specs.List.{AllByRecursion}
use Rattle.geo_base.specs.Broker.{Site}

-- a text of at most 16 bytes, as each name is
abbrev pub IsNameLong : List ℕ → Type 0
IsNameLong n = length n ≤ 16

-- at most eight clusters, the own one among them, and names as they are
pub record IsSite (h : Site) : Type 0 where
  pub own : h.own < length h.clusters
  pub few : length h.clusters ≤ 8
  pub names : AllByRecursion IsNameLong h.clusters
  pub topic : IsNameLong h.topic
