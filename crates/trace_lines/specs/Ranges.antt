-- The ranges of an acknowledgement's line: F-L, ascending and with a gap between each two, with commas; - where there is none (own).
use Rattle.std.specs.Prelude.{ℕ, ◌+◌, nat_le, if◌then◌else◌, List, [], ◌∷◌, Option, Some, None, codes}
use Rattle.std.specs.Str.{bytes_eq}
use Rattle.cursor_acks.specs.declared.range.IndexRange.{IndexRange}
use Rattle.script_rows.specs.NameWords.{Word, cut_by, given, listed}
use Rattle.script_rows.specs.Words.{◌>>=◌}
use Rattle.trace_lines.specs.Words.{number}

abbrev pub range_in : List Word → Option IndexRange
range_in (f ∷ l ∷ []) = do
  first ← number f
  last ← number l
  given (nat_le first last) (record { first = first; last = last })
range_in ws = None

-- the first index that may follow, where all up to one is behind
abbrev pub least_behind : Option ℕ → ℕ
least_behind None = 0
least_behind (Some last) = last + 2

abbrev pub ranges_from : Option ℕ → List Word → Option (List IndexRange)
ranges_from last [] = Some []
ranges_from last (w ∷ ws) = do
  r ← range_in (cut_by 45 w)
  rs ← if nat_le (least_behind last) r.first then ranges_from (Some r.last) ws else None
  Some (r ∷ rs)

abbrev pub ranges_of : Word → Option (List IndexRange)
ranges_of w = if bytes_eq w (codes "-") then Some [] else ranges_from None (listed w)

-- the last index of some ranges
abbrev pub last_of : List IndexRange → Option ℕ
last_of [] = None
last_of (r ∷ []) = Some r.last
last_of (r ∷ q ∷ rs) = last_of (q ∷ rs)
