-- Inclusive ranges of indexes, and the set that they stand for.
use Rattle.std.specs.Prelude.{◌≡◌, ℕ, ◌+◌, ◌-◌, ◌≤◌, ◌<◌, ◌^◌, nat_le, Bool, false, ◌&&◌, ◌||◌, List, [], ◌∷◌, ◌++◌, length}
use Rattle.std.specs.List.{All, AllPairs, range_with_len}
use Rattle.cursor_acks.specs.declared.range.IndexRange.{IndexRange}
use Rattle.geo_base.specs.Cursor.{has}

-- a list of ranges, the blocks that it stands in, and how many more find room
pub record Ranges : Type 0 where
  pub list : List IndexRange
  pub blocks : List (List IndexRange)
  pub spare : ℕ

-- an index lies in a range
abbrev pub lies_in : IndexRange → ℕ → Bool
lies_in r i = nat_le r.first i && nat_le i r.last

-- an index lies in one of some ranges
abbrev pub covers : List IndexRange → ℕ → Bool
covers [] i = false
covers (r ∷ rs) i = lies_in r i || covers rs i

-- the indexes of some ranges, range after range
abbrev pub indexes_of : List IndexRange → List ℕ
indexes_of [] = []
indexes_of (r ∷ rs) = range_with_len r.first (r.last + 1 - r.first) ++ indexes_of rs

-- ranges that ascend and are never adjacent: between two of them at least one index is left out
pub record AreApart (rs : List IndexRange) : Type 0 where
  pub each : All (λ (r : IndexRange). r.first ≤ r.last) rs
  pub gaps : AllPairs (λ (r s : IndexRange). r.last + 1 < s.first) rs

-- the ranges of a set of indexes: they ascend, are never adjacent, and together hold what the set holds
pub record AreRangesOf (set : List ℕ) (rs : List IndexRange) : Type 0 where
  pub apart : AreApart rs
  pub same : (i : ℕ) → covers rs i ≡ has set i

-- indexes that are those of ascending ranges with gaps between them, range after range, and no more ranges than a list can count
pub record IsToldByRanges (set : List ℕ) : Type 0 where
  pub ranges : List IndexRange
  pub apart : AreApart ranges
  pub is : set ≡ indexes_of ranges
  pub few : length ranges < 2 ^ 64
