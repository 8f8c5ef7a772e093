-- A number's text reads back.
use Rattle.std.proofs.Common.{◌≡◌, ℕ, zero, suc, ◌+◌, ◌-◌, ◌*◌, ◌<◌, ◌≤◌, ◌^◌, nat_le, ◌==◌, true, not, List, [], ◌∷◌, length, get_or, Some, arith, refl, ap}
use Rattle.std.specs.Fmt.{decimal}
use Rattle.std.specs.List.{list_all}
use Rattle.std.proofs.lemmas.Bool.{and_from, and_parts, or_right, not_from_false, ne_eqb, le-leb, leb-true}
use Rattle.std.proofs.lemmas.Fmt.{decimal_digit, digits_decimal, digits_value-decimal, first_decimal}
use Rattle.std.proofs.lemmas.Str.Parse.{IsDigitsTest, FoldsDigits, IsNumeralModel, numerals_by_fold}
use Rattle.script_rows.specs.Numbers.{is_digit, has_number_form, number_of, value_from}

digits_test : IsDigitsTest (λ ds. list_all is_digit ds ≡ true)
digits_test = record {
  empty = refl;
  parts = λ c cs all.
      let both = and_parts (is_digit c) (list_all is_digit cs) all in
      let ends = and_parts (nat_le 48 c) (nat_le c 57) both.0 in
      ((leb-true _ _ ends.0, leb-true _ _ ends.1), both.1);
  more = λ c cs within all.
      and_from (is_digit c) (list_all is_digit cs) (and_from (nat_le 48 c) (nat_le c 57) (le-leb _ _ within.0) (le-leb _ _ within.1)) all;
}

shifted : (n c : ℕ) (cs : List ℕ) → value_from n (c ∷ cs) ≡ value_from (n * 10 + (c - 48)) cs
shifted n c cs = ap (λ (m : ℕ). value_from m cs) (omega arith)

folds : FoldsDigits value_from
folds = record { empty = λ n. refl; more = λ n c cs within. shifted n c cs }

model : IsNumeralModel (λ ds. list_all is_digit ds ≡ true) (value_from 0)
model = numerals_by_fold (λ ds. list_all is_digit ds ≡ true) digits_test value_from folds

pub decimal_digits : (n : ℕ) → n < 2 ^ 64 → list_all is_digit (decimal n) ≡ true
decimal_digits n fits = digits_decimal model n fits

decimal_value : (n : ℕ) → n < 2 ^ 64 → value_from 0 (decimal n) ≡ n
decimal_value n fits = digits_value-decimal model n fits

-- text that begins with no 0 has a number's form
formed : (ds : List ℕ) → 48 < get_or ds 0 0 → has_number_form ds ≡ true
formed [] first = absurd (omega arith)
formed (d ∷ ds) first =
    or_right (length ds == 0) (not (d == 48)) (not_from_false (d == 48) (ne_eqb d 48 (λ same. omega arith)))

decimal_form : (n : ℕ) → n < 2 ^ 64 → has_number_form (decimal n) ≡ true
decimal_form zero fits = rw (decimal_digit 0 (omega arith)) refl
decimal_form (suc n) fits = formed (decimal (suc n)) (first_decimal (suc n) (omega arith) fits)

pub number_back : (most n : ℕ) → n ≤ most → n < 2 ^ 64 → number_of most (decimal n) ≡ Some n
number_back most n small fits =
    rw (decimal_form n fits, decimal_digits n fits, decimal_value n fits, le-leb _ _ small) refl
