-- The words of a line.
use Rattle.std.specs.Prelude.{ℕ, zero, suc, List, [], ◌∷◌, Option, Some, None, option_and_then}
use Rattle.std.specs.List.{join_with_byte}
use Rattle.script_rows.specs.NameWords.{Word, cut_by}

-- what comes of a part, where there is one
infixl 10 ◌>>=◌
abbrev pub ◌>>=◌ : {A B : Type 0} → Option A → (A → Option B) → Option B
part >>= f = option_and_then f part

-- the words of a line stand between spaces: two spaces in a row have an empty word between them
abbrev pub words_of : List ℕ → List Word
words_of bytes = cut_by 32 bytes

-- so many words at most: the last is all that is left
abbrev pub gathered : ℕ → List Word → List Word
gathered zero ws = []
gathered (suc n) [] = []
gathered (suc zero) (w ∷ ws) = join_with_byte 32 (w ∷ ws) ∷ []
gathered (suc (suc n)) (w ∷ ws) = w ∷ gathered (suc n) ws

abbrev pub limited : Option ℕ → List Word → List Word
limited None ws = ws
limited (Some most) ws = gathered most ws

-- one word, where there is one, and those after it
abbrev pub with_front : Option Word → List Word → List Word
with_front None ws = ws
with_front (Some w) ws = w ∷ ws
