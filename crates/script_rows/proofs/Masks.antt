-- The names of a set read back as that set.
use Rattle.std.proofs.Common.{◌≡◌, ℕ, zero, suc, ◌+◌, ◌*◌, ◌/◌, ◌%◌, ◌^◌, ◌<◌, ◌≤◌, ◌==◌, Bool, true, false, cond, List, [], ◌∷◌, length, inl, inr, arith, refl, sym}
use native.Mathlib.Numerals.{unary_clauses}
use Rattle.std.specs.Str.{bytes_eq}
use Rattle.std.proofs.lemmas.Bool.{both_ways, cases_lt, eqb-true, eqb-false, false_from_ne_true, or_from, or_left, or_parts}
use Rattle.std.proofs.lemmas.Slice.Eq.{bytes_eq-Decides}
use Rattle.script_rows.specs.NameBytes.{AreApart, bit, is_among, mask_of, names_in}
use Rattle.script_rows.specs.NameWords.{Word}

other_way : (a b : Word) → bytes_eq a b ≡ false → bytes_eq b a ≡ false
other_way a b apart =
    false_from_ne_true (bytes_eq b a) (λ same. both_ways (bytes_eq a b) apart ((bytes_eq-Decides a b).1 (sym ((bytes_eq-Decides b a).0 same))))

chosen_too : (b : Bool) (y : Word) (ys : List Word) (m : ℕ) (x : Word) → bytes_eq y x ≡ false → is_among (names_in ys m) x ≡ false → is_among (cond b (y ∷ names_in ys m) (names_in ys m)) x ≡ false
chosen_too true y ys m x apart none = or_from (bytes_eq y x) (is_among (names_in ys m) x) apart none
chosen_too false y ys m x apart none = none

-- a name that is none of the names is none of those chosen
not_chosen : (xs : List Word) (m : ℕ) (x : Word) → is_among xs x ≡ false → is_among (names_in xs m) x ≡ false
not_chosen [] m x none = refl
not_chosen (y ∷ ys) m x none =
    let parts = or_parts (bytes_eq y x) (is_among ys x) none in
    chosen_too (m % 2 == 1) y ys (m / 2) x parts.0 (not_chosen ys (m / 2) x parts.1)

-- one more name that is none of the clusters does not change their mask
same_mask : (xs names : List Word) (x : Word) → is_among xs x ≡ false → mask_of xs (x ∷ names) ≡ mask_of xs names
same_mask [] names x none = refl
same_mask (y ∷ ys) names x none =
    let parts = or_parts (bytes_eq y x) (is_among ys x) none in
    rw (other_way y x parts.0, same_mask ys names x parts.1) refl

pow_more : (k : ℕ) → 2 ^ suc k ≡ 2 * 2 ^ k
pow_more k = simp unary_clauses (omega arith)

even_rest : (m : ℕ) → (m % 2 ≡ 1 → ⊥) → m % 2 ≡ 0
even_rest m other = elim (cases_lt (m % 2) 1) [
  | inl none ↦ omega (arith, none)
  | inr some ↦ absurd (other (omega (arith, some)))
]

half_small : (m k : ℕ) → m < 2 ^ suc k → m / 2 < 2 ^ k
half_small m k small = omega (arith, small, pow_more k)

odd : (m : ℕ) → (m % 2 == 1) ≡ true → 1 + 2 * (m / 2) ≡ m
odd m is = let one : m % 2 ≡ 1 = eqb-true _ _ is in omega (arith, one)

even : (m : ℕ) → (m % 2 == 1) ≡ false → 0 + 2 * (m / 2) ≡ m
even m is = let other : m % 2 ≡ 1 → ⊥ = eqb-false _ _ is in omega (arith, even_rest m other)

by_bit : (b : Bool) (x : Word) (xs : List Word) (m : ℕ) → (m % 2 == 1) ≡ b → is_among xs x ≡ false → mask_of xs (names_in xs (m / 2)) ≡ m / 2 → mask_of (x ∷ xs) (cond b (x ∷ names_in xs (m / 2)) (names_in xs (m / 2))) ≡ m
by_bit true x xs m is apart back =
    rw (or_left (bytes_eq x x) (is_among (names_in xs (m / 2)) x) ((bytes_eq-Decides x x).1 refl), same_mask xs (names_in xs (m / 2)) x apart, back) (odd m is)
by_bit false x xs m is apart back =
    rw (not_chosen xs (m / 2) x apart, back) (even m is)

pub mask_back : (xs : List Word) (m : ℕ) → AreApart xs → m < 2 ^ length xs → mask_of xs (names_in xs m) ≡ m
mask_back [] m apart small = omega (arith, small)
mask_back (x ∷ xs) m apart small =
    by_bit (m % 2 == 1) x xs m refl apart.0 (mask_back xs (m / 2) apart.1 (half_small m (length xs) small))

-- ---- how large a mask is
bit-le : (b : Bool) → bit b ≤ 1
bit-le true = omega arith
bit-le false = omega arith

-- a bit for each name
pub mask-lt : (xs names : List Word) (n : ℕ) → length xs ≤ n → mask_of xs names < 2 ^ n
mask-lt [] names zero few = omega arith
mask-lt [] names (suc n) few = omega (arith, mask-lt [] names n (omega arith))
mask-lt (x ∷ xs) names zero few = absurd (omega arith)
mask-lt (x ∷ xs) names (suc n) few = omega (arith, bit-le (is_among names x), mask-lt xs names n (omega arith))

pub mask_small : (xs names : List Word) → length xs ≤ 7 → mask_of xs names < 128
mask_small xs names few = mask-lt xs names 7 few
