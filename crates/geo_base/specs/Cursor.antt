-- A cursor over a topic: the set of its acknowledged indexes, as an ascending list. Its mark-delete is how many entries
-- from the first on are all acknowledged (Pulsar manual: a cursor holds a mark-delete position and individual acknowledgements).
use Rattle.std.specs.Prelude.{ℕ, zero, suc, ◌+◌, nat_lt, ◌==◌, Bool, false, not, ◌&&◌, ◌||◌, if◌then◌else◌, List, [], ◌∷◌, Option, Some, None}
use Rattle.std.specs.List.{range_with_len}

abbrev pub has : List ℕ → ℕ → Bool
has [] i = false
has (x ∷ xs) i = (x == i) || has xs i

-- one more index acknowledged
abbrev pub with_index : List ℕ → ℕ → List ℕ
with_index [] i = i ∷ []
with_index (x ∷ xs) i = if nat_lt i x then i ∷ x ∷ xs else if x == i then x ∷ xs else x ∷ with_index xs i

-- each of some indexes acknowledged
abbrev pub with_indexes : List ℕ → List ℕ → List ℕ
with_indexes set [] = set
with_indexes set (i ∷ is) = with_indexes (with_index set i) is

-- all indexes below n
abbrev pub below : ℕ → List ℕ
below n = range_with_len 0 n

-- where the run of acknowledged indexes that begins at m ends
abbrev pub mark_from : List ℕ → ℕ → ℕ
mark_from [] m = m
mark_from (x ∷ xs) m = if x == m then mark_from xs (m + 1) else m

-- the mark-delete
abbrev pub mark : List ℕ → ℕ
mark set = mark_from set 0

-- the least of the indexes from, from + 1, .. from + more - 1 that is not acknowledged
abbrev pub next_open : List ℕ → ℕ → ℕ → Option ℕ
next_open set from zero = None
next_open set from (suc more) = if has set from then next_open set (from + 1) more else Some from

-- how many data entries are not acknowledged; i is the index of the first flag, which says whether an entry is data
abbrev pub backlog_from : List ℕ → ℕ → List Bool → ℕ
backlog_from set i [] = 0
backlog_from set i (d ∷ ds) = (if d && not (has set i) then 1 else 0) + backlog_from set (i + 1) ds
