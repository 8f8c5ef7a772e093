-- A list, cut at the first element that passes a test.
use Rattle.std.proofs.Common.{◌≡◌, ℕ, ◌+◌, ◌-◌, ◌<◌, ◌≤◌, Bool, true, false, ltb, List, [], ◌∷◌, length, take, drop, Some, None, ◌==◌, arith, subst, refl, rules}
use Rattle.std.specs.List.{slice_split, position, position_or_len}
use Rattle.std.proofs.lemmas.Bool.{ltb-true, ltb-false}
use Rattle.std.proofs.lemmas.List.{take_rest}
use Rattle.std.proofs.lemmas.List.Elements.{All-from_get_or}
use Rattle.std.proofs.lemmas.List.Splits.{slice_split_first, slice_split_none, length-slice_split}
use Rattle.std.proofs.lemmas.List.Sums.{fails_before_first}
use Rattle.std.proofs.lemmas.Option.{cond_some}
use Rattle.script_text.specs.Lines.{lines_between, lines_of}
pub use Rattle.geo_base.proofs.Bools.{cond_none as test_failed}

pub cut_found : (p : ℕ → Bool) (xs : List ℕ) (i : ℕ) → position p xs ≡ Some i → slice_split p xs ≡ take i xs ∷ slice_split p (take (length xs - (i + 1)) (drop (i + 1) xs))
cut_found p xs i e =
    let parts = cond_some (ltb (position_or_len p xs) (length xs)) (position_or_len p xs) i e in
    let inside : position_or_len p xs < length xs = ltb-true _ _ parts.0 in
    let here : (j : ℕ) → j ≡ i → slice_split p xs ≡ take j xs ∷ slice_split p (drop (j + 1) xs) → slice_split p xs ≡ take i xs ∷ slice_split p (drop (i + 1) xs) = λ j same at. subst (λ k. slice_split p xs ≡ take k xs ∷ slice_split p (drop (k + 1) xs)) same at in
    rw take_rest (here _ parts.1 (slice_split_first p xs 0 inside))

pub cut_none : (p : ℕ → Bool) (xs : List ℕ) → position p xs ≡ None → slice_split p xs ≡ xs ∷ []
cut_none p xs e =
    let past : length xs ≤ position_or_len p xs = ltb-false _ _ (test_failed (ltb (position_or_len p xs) (length xs)) (position_or_len p xs) e) in
    slice_split_none p xs (All-from_get_or (λ x. p x ≡ false) xs 0 (λ k within. fails_before_first p xs k 0 (omega arith)))

-- what stands before a line feed is a line that it ends
pub before_more : (x : List ℕ) (parts : List (List ℕ)) → 0 < length parts → lines_between (x ∷ parts) ≡ record { bytes = x; ended = true } ∷ lines_between parts
before_more x [] some = absurd (omega arith)
before_more x (y ∷ more) some = refl

pub lines_cut : (bytes x rest : List ℕ) → slice_split (λ b. b == 10) bytes ≡ x ∷ slice_split (λ b. b == 10) rest → lines_of bytes ≡ record { bytes = x; ended = true } ∷ lines_of rest
lines_cut bytes x rest cut =
    rw cut (before_more x _ (omega (arith, length-slice_split (λ (b : ℕ). b == 10) rest)))

-- bytes without a line feed are a line that none ends
pub lines_uncut : (bytes : List ℕ) → slice_split (λ b. b == 10) bytes ≡ bytes ∷ [] → 0 < length bytes → lines_of bytes ≡ record { bytes = bytes; ended = false } ∷ []
lines_uncut [] cut some = absurd (omega arith)
lines_uncut (b ∷ bs) cut some = rw cut (search rules)
