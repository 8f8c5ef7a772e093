-- The index of the last message of each key, and the map that tells it.
use Rattle.std.specs.Prelude.{◌≡◌, ℕ, ◌+◌, ◌≤◌, ◌==◌, nat_lt, Bool, true, false, ◌&&◌, if◌then◌else◌, List, [], ◌∷◌, length, take, Option, Some, None}
use Rattle.std.specs.Map.{lookup}
use Rattle.std.specs.Str.{bytes_eq}
use Rattle.std.specs.Prelude.{String, string_bytes}
use Rattle.std.specs.declared.alloc.Global.{Global}
use Rattle.std.specs.Option.{option_or}
use Rattle.geo_base.specs.declared.entry.Entry.{Entry}
use Rattle.topic_compaction.specs.View.{is_of_key}

-- a key, and the index of its last message
abbrev pub Row : Type 0
Row = String Global × ℕ

-- a compacted view as its owner sees it: where it ends, and a row for each key before that
pub record Rows : Type 0 where
  pub horizon : ℕ
  pub rows : List Row

abbrev pub if_of_key : List ℕ → ℕ → Entry → Option ℕ
if_of_key k i e = if is_of_key k e then Some i else None

-- the index of the last message of a key; the first entry of the list has index i
abbrev pub last_from : List ℕ → ℕ → List Entry → Option ℕ
last_from k i [] = None
last_from k i (e ∷ es) = option_or (last_from k (i + 1) es) (if_of_key k i e)

-- what rows say of a key: the first row of it counts
abbrev pub index_in : List ℕ → List Row → Option ℕ
index_in k rows = lookup (λ (t : String Global). bytes_eq k (string_bytes t)) rows

-- the rows tell the last message of each key among the entries below the horizon
pub record IsCompacted (es : List Entry) (c : Rows) : Type 0 where
  pub within : c.horizon ≤ length es
  pub last : (k : List ℕ) → index_in k c.rows ≡ last_from k 0 (take c.horizon es)

abbrev pub is_at : ℕ → Option ℕ → Bool
is_at i None = false
is_at i (Some j) = j == i

-- what the rows say of a message before the horizon, by its index, its key and its payload
abbrev pub is_kept : List Row → ℕ → Option (List ℕ) → List ℕ → Bool
is_kept rows i None payload = true
is_kept rows i (Some k) payload = nat_lt 0 (length payload) && is_at i (index_in k rows)
