-- A list that is written name by name.
use Rattle.std.proofs.Common.{◌≡◌, ℕ, ◌+◌, ◌<◌, ◌≤◌, ◌/◌, ◌%◌, ◌==◌, ◌++◌, Bool, true, false, List, [], ◌∷◌, length, drop, refl, ap, ◌∙◌, sym}
use Rattle.std.specs.List.{join_with_byte}
use Rattle.std.proofs.lemmas.List.{append_assoc, append-nil, drop_all, drop_more}
use Rattle.script_rows.specs.NameBytes.{name_at, names_in}
use Rattle.script_rows.specs.NameWords.{Word}

-- names with a comma before each
abbrev pub preceded : List Word → List ℕ
preceded [] = []
preceded (w ∷ ws) = 44 ∷ w ++ preceded ws

-- what is written with the names that are left; a comma stands before each but the first
abbrev pub ended : Bool → List ℕ → List Word → List ℕ
ended true out ws = out ++ join_with_byte 44 ws
ended false out ws = out ++ preceded ws

join_first : (w : Word) (ws : List Word) → join_with_byte 44 (w ∷ ws) ≡ w ++ preceded ws
join_first w [] = sym (append-nil w)
join_first w (x ∷ xs) = ap (λ (t : List ℕ). w ++ 44 ∷ t) (join_first x xs)

the_first : (out : List ℕ) (w : Word) (ws : List Word) → ended true out (w ∷ ws) ≡ ended false (out ++ w) ws
the_first out w ws = ap (λ (t : List ℕ). out ++ t) (join_first w ws) ∙ sym (append_assoc out w (preceded ws))

one_after : (out : List ℕ) (w : Word) (ws : List Word) → ended false out (w ∷ ws) ≡ ended false ((out ++ 44 ∷ []) ++ w) ws
one_after out w ws = rw (append_assoc (out ++ 44 ∷ []) w (preceded ws), append_assoc out (44 ∷ []) (w ++ preceded ws)) refl

chosen : (xs : List Word) (i m : ℕ) → i < length xs → (m % 2 == 1) ≡ true → names_in (drop i xs) m ≡ name_at xs i ∷ names_in (drop (i + 1) xs) (m / 2)
chosen xs i m within set = rw (drop_more xs i [] within, set) refl

left_out : (xs : List Word) (i m : ℕ) → i < length xs → (m % 2 == 1) ≡ false → names_in (drop i xs) m ≡ names_in (drop (i + 1) xs) (m / 2)
left_out xs i m within unset = rw (drop_more xs i [] within, unset) refl

pub first_one : (xs : List Word) (i m : ℕ) (out : List ℕ) → i < length xs → (m % 2 == 1) ≡ true → ended true out (names_in (drop i xs) m) ≡ ended false (out ++ name_at xs i) (names_in (drop (i + 1) xs) (m / 2))
first_one xs i m out within set =
    ap (ended true out) (chosen xs i m within set) ∙ the_first out (name_at xs i) (names_in (drop (i + 1) xs) (m / 2))

pub one_more : (xs : List Word) (i m : ℕ) (out : List ℕ) → i < length xs → (m % 2 == 1) ≡ true → ended false out (names_in (drop i xs) m) ≡ ended false ((out ++ 44 ∷ []) ++ name_at xs i) (names_in (drop (i + 1) xs) (m / 2))
one_more xs i m out within set =
    ap (ended false out) (chosen xs i m within set) ∙ one_after out (name_at xs i) (names_in (drop (i + 1) xs) (m / 2))

pub none_more : (xs : List Word) (i m : ℕ) (b : Bool) (out : List ℕ) → i < length xs → (m % 2 == 1) ≡ false → ended b out (names_in (drop i xs) m) ≡ ended b out (names_in (drop (i + 1) xs) (m / 2))
none_more xs i m b out within unset = ap (ended b out) (left_out xs i m within unset)

nothing_left : (b : Bool) (out : List ℕ) → ended b out [] ≡ out
nothing_left true out = append-nil out
nothing_left false out = append-nil out

pub all_done : (xs : List Word) (i m : ℕ) (b : Bool) (out : List ℕ) → length xs ≤ i → ended b out (names_in (drop i xs) m) ≡ out
all_done xs i m b out past = rw (drop_all i xs past) (nothing_left b out)
