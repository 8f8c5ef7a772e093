-- Numbers, digit by digit.
use Rattle.std.proofs.Common.{◌≡◌, ℕ, ◌+◌, ◌-◌, ◌*◌, ◌<◌, ◌≤◌, nat_le, false, ◌&&◌, if◌then◌else◌, List, [], ◌∷◌, length, get_or, drop, Some, None, inl, inr, arith, refl}
use Rattle.std.specs.List.{list_all}
use Rattle.std.proofs.lemmas.Bool.{leb-false, and_cases, and_right, lt-leb}
use Rattle.std.proofs.lemmas.List.{drop_more}
use Rattle.script_rows.proofs.Cuts.{test_failed}
use Rattle.script_rows.specs.Numbers.{is_digit, value_from, number_from}

-- more digits write a number that is no smaller
value-grows : (m : ℕ) (digits : List ℕ) → m ≤ value_from m digits
value-grows m [] = omega arith
value-grows m (d ∷ ds) = omega (arith, value-grows (10 * m + (d - 48)) ds)

-- a digit that is none, or that makes the number too large, ends the reading
refused : (most m d : ℕ) (ds : List ℕ) → (is_digit d && nat_le (10 * m + (d - 48)) most) ≡ false → number_from most m (d ∷ ds) ≡ None
refused most m d ds fails =
    elim (and_cases (is_digit d) (nat_le (10 * m + (d - 48)) most) fails) [
      | inl other ↦ rw other refl
      | inr large ↦
          let past : most < value_from (10 * m + (d - 48)) ds = omega (arith, leb-false _ _ large, value-grows (10 * m + (d - 48)) ds) in
          rw (and_right (list_all is_digit (d ∷ ds)) (nat_le (value_from m (d ∷ ds)) most) (lt-leb _ _ past)) refl
    ]

-- the same of the digits from index i on
pub refused_at : (most m i : ℕ) (digits : List ℕ) (next : ℕ) → i < length digits → (if is_digit (get_or digits i 0) && nat_le (10 * m + (get_or digits i 0 - 48)) most then Some next else None) ≡ None → number_from most m (drop i digits) ≡ None
refused_at most m i digits next within none =
    rw (drop_more digits i 0 within) (refused most m (get_or digits i 0) (drop (i + 1) digits) (test_failed (is_digit (get_or digits i 0) && nat_le (10 * m + (get_or digits i 0 - 48)) most) next none))
