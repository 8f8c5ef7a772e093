-- What a snapshot's positions need here, entry by entry of the other topic.
use Rattle.std.specs.Prelude.{◌≡◌, ℕ, ◌+◌, nat_le, Bool, false, List, length, take, Option, Some, None, slice_get}
use Rattle.std.specs.List.{list_all}
use Rattle.geo_base.specs.declared.entry.Entry.{Entry}
use Rattle.geo_base.specs.Setup.{Setup}
use Rattle.observation.specs.Findings.{is_covered}
use Rattle.observation.specs.Observed.{Observation, entries_seen}

abbrev pub ClusterNumber : Type 0
ClusterNumber = ℕ

-- so many entries here are needed; None where no number is enough
abbrev pub NeedOf : Type 0
NeedOf = Option ℕ

-- those up to index l here are enough
abbrev pub covers_upto : NeedOf → ℕ → Bool
covers_upto None l = false
covers_upto (Some n) l = nat_le n (l + 1)

pub record AreNeeds (x : ℕ) (here there : List Entry) (ns : List NeedOf) : Type 0 where
  pub sized : length ns ≡ length there
  pub least : (j l : ℕ) (n : NeedOf) → slice_get ns j ≡ Some n → list_all (is_covered x here l) (take (j + 1) there) ≡ covers_upto n l

-- and of each cluster
pub record AreAllNeeds (s : Setup) (o : Observation) (t x : ℕ) (nss : List (List NeedOf)) : Type 0 where
  pub sized : length nss ≡ length s.clusters
  pub each : (y : ℕ) (ns : List NeedOf) → slice_get nss y ≡ Some ns → AreNeeds x (entries_seen s o t x) (entries_seen s o t y) ns
