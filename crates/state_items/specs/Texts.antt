-- The texts of items: each value has one (own).
use Rattle.std.specs.Prelude.{ℕ, List, ◌++◌, length}
use Rattle.std.specs.Int.{w32, w64, to_be_bytes}
use Rattle.std.specs.List.{flat_map}
use Rattle.cursor_acks.specs.declared.range.IndexRange.{IndexRange}
use Rattle.state_items.specs.Runs.{runs}

-- eight bytes, the greatest first
unfoldable pub number : ℕ → List ℕ
number n = to_be_bytes w64 n

-- four bytes
unfoldable pub word : ℕ → List ℕ
word n = to_be_bytes w32 n

-- four bytes of length, and so many bytes
abbrev pub text : List ℕ → List ℕ
text t = word (length t) ++ t

-- how many items, and the items
abbrev pub list : {A : Type 0} → (A → List ℕ) → List A → List ℕ
list one xs = number (length xs) ++ flat_map one xs

abbrev pub range : IndexRange → List ℕ
range r = number r.first ++ number r.last

-- the ranges of a set of indexes below n
abbrev pub cursor : ℕ → List ℕ → List ℕ
cursor n set = list range (runs set 0 n)
