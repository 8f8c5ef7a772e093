-- Names in their order, and lists of names.
use Rattle.std.specs.Prelude.{◌≡◌, ℕ, ◌+◌, ◌*◌, ◌/◌, ◌%◌, ◌==◌, Bool, false, not, ◌||◌, if◌then◌else◌, List, [], ◌∷◌, map, slice_index_or, ⊤}
use Rattle.std.specs.Borrow.{Bor}
use Rattle.std.specs.List.{list_any, position_or_len}
use Rattle.std.specs.Str.{bytes_eq}
use Rattle.script_rows.specs.NameWords.{Word, is_long}

-- the words that references point at
abbrev pub words : List (Bor Word) → List Word
words ws = map (λ (w : Bor Word). w.now) ws

abbrev pub is_among : List Word → Word → Bool
is_among names w = list_any (λ n. bytes_eq n w) names

-- names are numbered from 0 in their order; a name that is none of them has the number after the last one's
abbrev pub number_in : List Word → Word → ℕ
number_in names w = position_or_len (λ n. bytes_eq n w) names

abbrev pub name_at : List Word → ℕ → Word
name_at names i = slice_index_or names i []

-- ---- lists
abbrev pub has_long : List Word → Bool
has_long ws = list_any is_long ws

abbrev pub has_stranger : List Word → List Word → Bool
has_stranger names ws = list_any (λ w. not (is_among names w)) ws

-- a name stands twice
abbrev pub has_repeat : List Word → Bool
has_repeat [] = false
has_repeat (w ∷ ws) = is_among ws w || has_repeat ws

-- each name stands once
abbrev pub AreApart : List Word → Type 0
AreApart [] = ⊤
AreApart (w ∷ ws) = (is_among ws w ≡ false) × AreApart ws

-- ---- sets of names: a name's number is that of its bit
abbrev pub bit : Bool → ℕ
bit b = if b then 1 else 0

abbrev pub mask_of : List Word → List Word → ℕ
mask_of [] names = 0
mask_of (x ∷ xs) names = bit (is_among names x) + 2 * mask_of xs names

-- the names whose bits are set
abbrev pub names_in : List Word → ℕ → List Word
names_in [] m = []
names_in (x ∷ xs) m = if m % 2 == 1 then x ∷ names_in xs (m / 2) else names_in xs (m / 2)
