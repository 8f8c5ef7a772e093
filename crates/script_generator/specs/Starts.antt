-- Where a trace begins that stands after a script's declarations (own).
use Rattle.std.specs.Prelude.{ℕ, ◌+◌, if◌then◌else◌, List, [], ◌∷◌, length, take, drop, codes}
use Rattle.std.specs.Str.{bytes_eq}
use Rattle.script_rows.specs.NameWords.{cut_by}

-- By what stands between line feeds: at the first line that is `trace`, with its line feed; after all bytes, where no line is
abbrev pub trace_from : List (List ℕ) → ℕ
trace_from [] = 0
trace_from (l ∷ []) = length l
trace_from (l ∷ k ∷ ls) = if bytes_eq l (codes "trace") then 0 else length l + 1 + trace_from (k ∷ ls)

unfoldable pub trace_start : List ℕ → ℕ
trace_start input = trace_from (cut_by 10 input)

abbrev pub declarations_in : List ℕ → List ℕ
declarations_in input = take (trace_start input) input

abbrev pub trace_in : List ℕ → List ℕ
trace_in input = drop (trace_start input) input
