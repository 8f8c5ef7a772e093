-- Words without a space, which are cut again where they are joined, and printable words.
use Rattle.std.proofs.Common.{◌≡◌, ℕ, ◌<◌, ◌≤◌, ◌^◌, nat_lt, nat_le, ◌==◌, Bool, true, false, ◌&&◌, ◌||◌, List, [], ◌∷◌, ◌++◌, length, get_or, All, inl, inr, arith, refl, sym, ap, ◌∙◌}
use Rattle.std.specs.Fmt.{decimal}
use Rattle.std.specs.List.{list_all, join_with_byte}
use Rattle.std.proofs.lemmas.Bool.{and_from, and_parts, eqb-true, le-leb, le-ltb, leb-true, lt-ltb, ltb-true, ne_eqb, or_cases}
use Rattle.std.proofs.lemmas.List.Elements.{All-from_get_or}
use Rattle.std.proofs.lemmas.List.Folds.{list_all-append}
use Rattle.std.proofs.lemmas.List.Splits.{slice_split_at, slice_split_none}
use Rattle.geo_base.specs.Name.{is_name, name_byte}
use Rattle.script_rows.specs.Numbers.{is_digit}
use Rattle.script_rows.specs.NameWords.{Word, has_name_bytes, is_long}
use Rattle.script_rows.proofs.Digits.{decimal_digits}
use Rattle.script_rows.specs.Words.{words_of}
use Rattle.script_rows.specs.Written.{spaced}
use Rattle.script_rows.proofs.Back.{passes}
use Rattle.script_rows.proofs.Plain.{IsCut, are_plain, is_plain, is_shown, is_visible}
use Rattle.script_rows.proofs.Spaced.{joined}

pub weaker : {X : Type 0} (p q : X → Bool) → ((x : X) → p x ≡ true → q x ≡ true) → (xs : List X) → list_all p xs ≡ true → list_all q xs ≡ true
weaker p q each [] all = refl
weaker p q each (x ∷ xs) all =
    let parts = and_parts (p x) (list_all p xs) all in
    and_from (q x) (list_all q xs) (each x parts.0) (weaker p q each xs parts.1)

-- ---- a name's bytes
between : (b : ℕ) → 33 ≤ b → b ≤ 126 → is_visible b ≡ true
between b least most = and_from (nat_lt 32 b) (nat_le b 126) (lt-ltb _ _ (omega arith)) (le-leb _ _ most)

pub record IsHigh (b : ℕ) : Type 0 where
  pub least : 48 ≤ b
  pub most : b ≤ 122

digit_high : (b : ℕ) → is_digit b ≡ true → IsHigh b
digit_high b is =
    let ends = and_parts (nat_le 48 b) (nat_le b 57) is in
    let most : b ≤ 57 = leb-true _ _ ends.1 in
    record { least = leb-true _ _ ends.0; most = omega arith }

letter_high : (b : ℕ) → (nat_le 97 b && nat_le b 122) ≡ true → IsHigh b
letter_high b is =
    let ends = and_parts (nat_le 97 b) (nat_le b 122) is in
    let least : 97 ≤ b = leb-true _ _ ends.0 in
    record { least = omega arith; most = leb-true _ _ ends.1 }

pub name_high : (b : ℕ) → name_byte b ≡ true → IsHigh b
name_high b is =
    elim (or_cases ((nat_le 97 b && nat_le b 122) || (nat_le 48 b && nat_le b 57)) (b == 95) is) [
      | inl some ↦ elim (or_cases (nat_le 97 b && nat_le b 122) (nat_le 48 b && nat_le b 57) some) [
        | inl letter ↦ letter_high b letter
        | inr digit ↦ digit_high b digit
      ]
      | inr line ↦ let same : b ≡ 95 = eqb-true _ _ line in record { least = omega arith; most = omega arith }
    ]

high_visible : (b : ℕ) → IsHigh b → is_visible b ≡ true
high_visible b h = between b (omega (arith, h.least)) (omega (arith, h.most))

-- ---- names and numbers
pub named_bytes : (w : Word) → is_name w ≡ true → list_all name_byte w ≡ true
named_bytes w is = (and_parts (nat_lt 0 (length w) && nat_le (length w) 16) (list_all name_byte w) is).1

pub has_bytes : (w : Word) → is_name w ≡ true → has_name_bytes w ≡ true
has_bytes w is =
    let ends = and_parts (nat_lt 0 (length w)) (nat_le (length w) 16) (and_parts (nat_lt 0 (length w) && nat_le (length w) 16) (list_all name_byte w) is).0 in
    and_from (nat_lt 0 (length w)) (list_all name_byte w) ends.0 (named_bytes w is)

pub is_short : (w : Word) → is_name w ≡ true → is_long w ≡ false
is_short w is =
    let ends = and_parts (nat_lt 0 (length w)) (nat_le (length w) 16) (and_parts (nat_lt 0 (length w) && nat_le (length w) 16) (list_all name_byte w) is).0 in
    le-ltb _ _ (leb-true _ _ ends.1)

pub name_plain : (w : Word) → is_name w ≡ true → is_plain w ≡ true
name_plain w is = weaker name_byte is_visible (λ b e. high_visible b (name_high b e)) w (named_bytes w is)

pub number_plain : (n : ℕ) → n < 2 ^ 64 → is_plain (decimal n) ≡ true
number_plain n fits =
    weaker is_digit is_visible (λ b e. high_visible b (digit_high b e)) (decimal n) (decimal_digits n fits)

-- ---- cuts
no_space : (b : ℕ) → is_visible b ≡ true → (b == 32) ≡ false
no_space b is =
    let least : 32 < b = ltb-true _ _ (and_parts (nat_lt 32 b) (nat_le b 126) is).0 in ne_eqb b 32 (λ same. omega arith)

unspaced : (w : Word) → is_plain w ≡ true → All (λ b. (b == 32) ≡ false) w
unspaced w all =
    All-from_get_or (λ b. (b == 32) ≡ false) w 0 (λ k within. no_space (get_or w k 0) (passes is_visible w k 0 all within))

-- a word before others
pub cut_first : (w rest : List ℕ) → is_plain w ≡ true → words_of (w ++ 32 ∷ rest) ≡ w ∷ words_of rest
cut_first w rest plain = slice_split_at (λ b. b == 32) w 32 rest (unspaced w plain) refl

pub cut_one : (w : Word) → is_plain w ≡ true → words_of w ≡ w ∷ []
cut_one w plain = slice_split_none (λ b. b == 32) w (unspaced w plain)

pub row_cut : (w : Word) (ws : List Word) → is_plain w ≡ true → are_plain ws ≡ true → words_of (w ++ spaced ws) ≡ w ∷ ws
row_cut w ws plain all = ap words_of (sym (joined w ws)) ∙ all_cut w ws plain all
  where
    all_cut : (w : Word) (ws : List Word) → is_plain w ≡ true → are_plain ws ≡ true → IsCut (w ∷ ws)
    all_cut w [] plain all = cut_one w plain
    all_cut w (x ∷ xs) plain all =
        let parts = and_parts (is_plain x) (are_plain xs) all in
        cut_first w (join_with_byte 32 (x ∷ xs)) plain ∙ ap (λ (ws : List Word). w ∷ ws) (all_cut x xs parts.0 parts.1)

-- ---- printable words
abbrev pub are_shown : List Word → Bool
are_shown ws = list_all (list_all is_shown) ws

visible_shown : (b : ℕ) → is_visible b ≡ true → is_shown b ≡ true
visible_shown b is =
    let ends = and_parts (nat_lt 32 b) (nat_le b 126) is in
    let least : 32 < b = ltb-true _ _ ends.0 in
    and_from (nat_le 32 b) (nat_le b 126) (le-leb _ _ (omega arith)) ends.1

pub plain_shown : (w : Word) → is_plain w ≡ true → list_all is_shown w ≡ true
plain_shown w plain = weaker is_visible is_shown visible_shown w plain

pub all_shown : (ws : List Word) → are_plain ws ≡ true → are_shown ws ≡ true
all_shown ws plain = weaker is_plain (list_all is_shown) plain_shown ws plain

pub spaced_shown : (ws : List Word) → are_shown ws ≡ true → list_all is_shown (spaced ws) ≡ true
spaced_shown [] all = refl
spaced_shown (w ∷ ws) all =
    let parts = and_parts (list_all is_shown w) (are_shown ws) all in
    rw (list_all-append is_shown w (spaced ws)) (and_from (list_all is_shown w) (list_all is_shown (spaced ws)) parts.0 (spaced_shown ws parts.1))

pub row_shown : (w : Word) (ws : List Word) → list_all is_shown w ≡ true → are_shown ws ≡ true → list_all is_shown (w ++ spaced ws) ≡ true
row_shown w ws first all =
    rw (list_all-append is_shown w (spaced ws)) (and_from (list_all is_shown w) (list_all is_shown (spaced ws)) first (spaced_shown ws all))
