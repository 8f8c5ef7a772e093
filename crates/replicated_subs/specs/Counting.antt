-- How a cache of snapshots is kept, and how many of them a mark-delete passes.
use Rattle.std.specs.Prelude.{ℕ, zero, suc, ◌≤◌, if◌then◌else◌, List, [], ◌∷◌, Option, Some, None}
use Rattle.geo_base.specs.declared.snapshot.CachedSnapshot.{CachedSnapshot}
use Rattle.geo_base.specs.declared.snapshot.Cut.{Cut}
use Rattle.geo_base.specs.Cache.{any_passed}

-- at most ten, in room for ten
pub record CacheHolds (len cap : ℕ) : Type 0 where
  pub few : len ≤ 10
  pub room : 10 ≤ cap

-- how many stand up to the last one that is passed, itself included
abbrev pub passed_count : ℕ → List CachedSnapshot → ℕ
passed_count mark [] = 0
passed_count mark (c ∷ cs) = if any_passed mark (c ∷ cs) then suc (passed_count mark cs) else 0

-- the cut of the last of the first n
abbrev pub cut_of_last : ℕ → List CachedSnapshot → Option Cut
cut_of_last zero cs = None
cut_of_last (suc n) [] = None
cut_of_last (suc zero) (c ∷ cs) = Some c.cut
cut_of_last (suc (suc n)) (c ∷ cs) = cut_of_last (suc n) cs
