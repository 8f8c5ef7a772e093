-- How often an end has looked at the other one, a count that never falls; and what stays shown over a look.
use Rattle.std.specs.Prelude.{◌≡◌, ℕ, ◌+◌, ◌-◌, ◌^◌, ◌≤◌, min, ⊤, Option, Some, None}

-- the greatest count that is kept, 18446744073709551615: a count that gets there stays there
abbrev pub greatest_count : ℕ
greatest_count = 2 ^ 64 - 1

-- the count after one more
abbrev pub one_more : ℕ → ℕ
one_more count = min (count + 1) greatest_count

-- the count rose. One that stands at the greatest count passes as risen
abbrev pub Looked : ℕ → ℕ → Type 0
Looked before now = (before ≤ now) × (now ≤ before → greatest_count ≤ before)

-- what was shown is shown still; where nothing was, something may be now
abbrev pub Stays : {X : Type 0} → Option X → Option X → Type 0
Stays None now = ⊤
Stays (Some x) now = now ≡ Some x
