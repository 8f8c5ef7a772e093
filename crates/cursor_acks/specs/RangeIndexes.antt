-- Where an index stands among ranges, and what one range takes the range_index of.
use Rattle.std.specs.Prelude.{◌≡◌, ℕ, ◌+◌, ◌≤◌, ◌<◌, ◌^◌, true, false, List, length}
use Rattle.std.specs.List.{All, AllWithin}
use Rattle.cursor_acks.specs.declared.range.IndexRange.{IndexRange}
use Rattle.cursor_acks.specs.Ranges.{AreApart, covers}

-- the ranges before a range_index end before an index, and those from it on do not
pub record IsPlace (rs : List IndexRange) (i at : ℕ) : Type 0 where
  pub within : at ≤ length rs
  pub before : AllWithin (λ (r : IndexRange). r.last < i) rs 0 at
  pub after : AllWithin (λ (r : IndexRange). i ≤ r.last) rs at (length rs)

-- ranges as a cursor keeps them: apart, and with a number that fits after each
pub record AreKept (rs : List IndexRange) : Type 0 where
  pub apart : AreApart rs
  pub bounded : All (λ (r : IndexRange). r.last + 1 < 2 ^ 64) rs

-- a new index and what is joined to it below begin at `first`, where the ranges from `from` to before `at` are joined
pub record Begins (rs : List IndexRange) (i at from first : ℕ) : Type 0 where
  pub order : from ≤ at
  pub reached : first ≤ i
  pub apart : AllWithin (λ (r : IndexRange). r.last + 1 < first) rs 0 from
  pub joined : AllWithin (λ (r : IndexRange). first ≤ r.first) rs from at
  pub held : (j : ℕ) → first ≤ j → j < i → covers rs j ≡ true
  pub alone : from ≡ at → (j : ℕ) → j + 1 ≡ i → covers rs j ≡ false

-- it and what is joined to it above end at `last`, where the ranges from `at` to before `to` are joined
pub record Ends (rs : List IndexRange) (i at to last : ℕ) : Type 0 where
  pub order : at ≤ to
  pub within : to ≤ length rs
  pub reached : i ≤ last
  pub apart : AllWithin (λ (r : IndexRange). last + 1 < r.first) rs to (length rs)
  pub joined : AllWithin (λ (r : IndexRange). r.last ≤ last) rs at to
  pub held : (j : ℕ) → i < j → j ≤ last → covers rs j ≡ true
  pub alone : at ≡ to → covers rs (i + 1) ≡ false
  pub bounded : last + 1 < 2 ^ 64
