-- The ranges of a set of indexes.
use Rattle.std.specs.Prelude.{ℕ, zero, suc, ◌+◌, ◌==◌, if◌then◌else◌, List, [], ◌∷◌}
use Rattle.geo_base.specs.Cursor.{has}
use Rattle.cursor_acks.specs.declared.range.IndexRange.{IndexRange}

-- one more index, which lies below all of some ranges
abbrev pub with_below : ℕ → List IndexRange → List IndexRange
with_below i [] = record { first = i; last = i } ∷ []
with_below i (r ∷ rs) =
    if r.first == i + 1 then record { first = i; last = r.last } ∷ rs else record { first = i; last = i } ∷ r ∷ rs

-- the ranges of those of the `more` indexes from `from` on that a set has
abbrev pub runs : List ℕ → ℕ → ℕ → List IndexRange
runs set from zero = []
runs set from (suc more) = if has set from then with_below from (runs set (from + 1) more) else runs set (from + 1) more
