-- How many calls of a source or a sink failed: a count that never falls.
use Rattle.std.specs.Prelude.{◌≡◌, ℕ, List, ◌+◌, ◌-◌, ◌^◌, ◌≤◌, min}

-- the greatest count that is kept, 18446744073709551615: a count that gets there stays there
abbrev pub greatest_count : ℕ
greatest_count = 2 ^ 64 - 1

-- the count after one more
abbrev pub one_more : ℕ → ℕ
one_more count = min (count + 1) greatest_count

-- the count rose by one at least, or stands at the greatest count, which passes as risen
abbrev pub Rose : ℕ → ℕ → Type 0
Rose before now = one_more before ≤ now

-- the count is what it was
abbrev pub Stood : ℕ → ℕ → Type 0
Stood before now = now ≡ before

-- The numbers of the calls that fail, counted from 1, and how many calls were made and failed so far.
pub record FaultPlan : Type 0 where
  pub fails : List ℕ
  pub calls : ℕ
  pub faults : ℕ
