-- Where an observation begins that stands after a script's declarations (own).
use Rattle.std.specs.Prelude.{ℕ, ◌+◌, Bool, true, false, if◌then◌else◌, List, [], ◌∷◌, length, take, drop, Option, Some, None, is_some, codes}
use Rattle.std.specs.Str.{bytes_eq}
use Rattle.script_rows.specs.NameWords.{Word, cut_by}

-- what a line says as the head: whether nothing moved while all was read
abbrev pub head_of : Word → Option Bool
head_of l =
    if bytes_eq l (codes "observed") then Some false
    else if bytes_eq l (codes "observed quiet") then Some true
    else None

-- By what stands between line feeds: at the first line that is a head, with its line feed; after all bytes, where no line is
abbrev pub observed_from : List Word → ℕ
observed_from [] = 0
observed_from (l ∷ []) = length l
observed_from (l ∷ k ∷ ls) = if is_some (head_of l) then 0 else length l + 1 + observed_from (k ∷ ls)

unfoldable pub observed_start : List ℕ → ℕ
observed_start input = observed_from (cut_by 10 input)

abbrev pub declarations_before : List ℕ → List ℕ
declarations_before input = take (observed_start input) input

abbrev pub observed_in : List ℕ → List ℕ
observed_in input = drop (observed_start input) input
