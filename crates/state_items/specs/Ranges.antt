-- Reading the ranges of a cursor.
use Rattle.std.specs.Prelude.{◌≡◌, ℕ, ◌≤◌, ◌+◌, ◌-◌, ◌<◌, nat_lt, nat_le, ◌==◌, Bool, true, ◌&&◌, ◌||◌, List, length, slice_index_or, Ok}
use Rattle.cursor_acks.specs.declared.range.IndexRange.{IndexRange}
use Rattle.std.specs.List.{All}
use Rattle.cursor_acks.specs.Ranges.{AreApart, indexes_of}
use Rattle.state_items.specs.declared.rule.Rule.TheVariants as rule
use Rattle.state_items.specs.Reading.{◌>>=◌, Read, judge, list_at, number_at}

abbrev pub no_range : IndexRange
no_range = record { first = 0; last = 0 }

-- a gap lies between the last of some ranges and an index
abbrev pub is_behind : List IndexRange → ℕ → Bool
is_behind before first = (length before == 0) || nat_lt ((slice_index_or before (length before - 1) no_range).last + 1) first

-- a range after those before it, in a topic of n entries
unfoldable pub range_at : ℕ → List IndexRange → List ℕ → Read IndexRange
range_at n before bytes = do
  first ← number_at bytes
  begins ← judge (is_behind before first.0 && nat_lt first.0 n) bytes rule.Ranges
  last ← number_at first.1
  ends ← judge (nat_le first.0 last.0 && nat_lt last.0 n) first.1 rule.Ranges
  Ok (record { first = first.0; last = last.0 }, last.1)

abbrev pub ranges_at : ℕ → List ℕ → Read (List IndexRange)
ranges_at n bytes = list_at (range_at n) bytes

-- the indexes that a cursor has
unfoldable pub cursor_at : ℕ → List ℕ → Read (List ℕ)
cursor_at n bytes = do
  ranges ← ranges_at n bytes
  Ok (indexes_of ranges.0, ranges.1)

-- ascending ranges with gaps between them, below n
pub record AreIn (n : ℕ) (rs : List IndexRange) : Type 0 where
  pub apart : AreApart rs
  pub within : All (λ (r : IndexRange). r.last < n) rs

-- a range that may stand after some
pub record IsNext (n : ℕ) (before : List IndexRange) (r : IndexRange) : Type 0 where
  pub behind : is_behind before r.first ≡ true
  pub order : r.first ≤ r.last
  pub within : r.last < n
