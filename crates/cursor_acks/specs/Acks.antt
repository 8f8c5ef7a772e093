-- A cursor as its owner sees it: the set of acknowledged indexes, as the machine has it, and the room beside it.
use Rattle.std.specs.Prelude.{◌≡◌, ℕ, zero, suc, ◌+◌, ◌-◌, ◌≤◌, ◌<◌, nat_lt, Bool, true, false, not, ◌||◌, if◌then◌else◌, List, Option, Some, None}
use Rattle.std.specs.List.{list_all, range_with_len}
use Rattle.geo_base.specs.Cursor.{has}

-- the acknowledged indexes, ascending, and how many more acknowledgements need no memory
pub record AckSet : Type 0 where
  pub indexes : List ℕ
  pub spare : ℕ

abbrev pub has_before : List ℕ → ℕ → Bool
has_before set zero = false
has_before set (suc i) = has set i

-- neither an index nor a neighbour of it is acknowledged
abbrev pub stands_alone : List ℕ → ℕ → Bool
stands_alone set i = not (has_before set i || (has set i || has set (i + 1)))

-- no neighbour of the indexes from one to another is acknowledged
abbrev pub stand_alone : List ℕ → ℕ → ℕ → Bool
stand_alone set first last = not (has_before set first || has set (last + 1))

-- all indexes from one to another, itself included
abbrev pub from_to : ℕ → ℕ → List ℕ
from_to first last = range_with_len first (last + 1 - first)

-- none of them is acknowledged
abbrev pub are_free : List ℕ → ℕ → ℕ → Bool
are_free set first last = list_all (λ i. not (has set i)) (from_to first last)

-- the least index at or after `from` that is not acknowledged
pub record IsFirstOpen (set : List ℕ) (from i : ℕ) : Type 0 where
  pub reached : from ≤ i
  pub outside : has set i ≡ false
  pub least : (j : ℕ) → from ≤ j → j < i → has set j ≡ true

-- the index, where it is below an end
abbrev pub if_below : ℕ → ℕ → Option ℕ
if_below i end = if nat_lt i end then Some i else None

-- all that is acknowledged is below a length
abbrev pub AreBelow : ℕ → List ℕ → Type 0
AreBelow len set = (i : ℕ) → has set i ≡ true → i < len
