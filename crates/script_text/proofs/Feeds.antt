-- The first element that passes a test, looked for a part at a time.
use Rattle.std.proofs.Common.{◌≡◌, ℕ, zero, suc, ◌+◌, ◌<◌, ◌≤◌, Bool, true, false, ltb, cond, List, [], ◌∷◌, length, take, drop, get_or, Some, None, arith, subst, sym, ap, ◌∙◌}
use Rattle.std.specs.Prelude.{not}
use Rattle.std.specs.List.{position, position_or_len}
use Rattle.std.proofs.lemmas.Bool.{false_from_ne_true, le-ltb, lt-ltb, ltb-false, ltb-true}
use Rattle.std.proofs.lemmas.List.{drop_more, get_or-take, length-take}
use Rattle.std.proofs.lemmas.Option.{cond_some}
use Rattle.memchr.specs.Find.{IsFirstByte}
use Rattle.script_text.proofs.Cuts.{test_failed}

-- where the first that passes stands
stands : (p : ℕ → Bool) (xs : List ℕ) (k : ℕ) → position_or_len p xs ≡ k → k < length xs → position p xs ≡ Some k
stands p xs k is within =
    ap (λ (b : Bool). cond b (Some (position_or_len p xs)) None) (lt-ltb (position_or_len p xs) (length xs) (omega arith)) ∙ ap Some is

stands_nowhere : (p : ℕ → Bool) (xs : List ℕ) → length xs ≤ position_or_len p xs → position p xs ≡ None
stands_nowhere p xs past = ap (λ (b : Bool). cond b (Some (position_or_len p xs)) None) (le-ltb (position_or_len p xs) (length xs) past)

found_at : (p : ℕ → Bool) (xs : List ℕ) (k : ℕ) → position p xs ≡ Some k → (position_or_len p xs ≡ k) × (k < length xs)
found_at p xs k e =
    let parts = cond_some (ltb (position_or_len p xs) (length xs)) (position_or_len p xs) k e in
    let inside : position_or_len p xs < length xs = ltb-true _ _ parts.0 in
    (parts.1, omega (arith, inside, parts.1))

found_nowhere : (p : ℕ → Bool) (xs : List ℕ) → position p xs ≡ None → length xs ≤ position_or_len p xs
found_nowhere p xs e = ltb-false _ _ (test_failed (ltb (position_or_len p xs) (length xs)) (position_or_len p xs) e)

-- where none of the first n passes, the first that does is the first of the rest
passed : (p : ℕ → Bool) (n : ℕ) (xs : List ℕ) → n ≤ length xs → ((k : ℕ) → k < n → ¬ (p (get_or xs k 0) ≡ true)) → position_or_len p xs ≡ n + position_or_len p (drop n xs)
passed p zero xs long none = omega arith
passed p (suc n) [] long none = absurd (omega (arith, long))
passed p (suc n) (x ∷ xs) long none =
    let fails : p x ≡ false = false_from_ne_true (p x) (none 0 (omega arith)) in
    let rest : position_or_len p xs ≡ n + position_or_len p (drop n xs) = passed p n xs (omega (arith, long)) (λ k under. none (suc k) (omega (arith, under))) in
    ap (λ (t : Bool). cond (not t) (1 + position_or_len p xs) 0) fails ∙ omega (arith, rest)

-- it is the first of all where it passes
first_passes : (p : ℕ → Bool) (x : ℕ) (xs : List ℕ) → p x ≡ true → position_or_len p (x ∷ xs) ≡ 0
first_passes p x xs is = ap (λ (t : Bool). cond (not t) (1 + position_or_len p xs) 0) is

-- found among the first n of the rest
pub found_near : (p : ℕ → Bool) (n i k : ℕ) (xs rest near : List ℕ) → position_or_len p xs ≡ i + position_or_len p rest → i + length rest ≡ length xs
    → near ≡ take n rest → IsFirstByte p near (Some k) → position p xs ≡ Some (i + k)
found_near p n i k xs rest near at long is found =
    let shorter : k < length (take n rest) = subst (λ (ys : List ℕ). k < length ys) is found.0.high in
    let under : k < n = omega (arith, shorter, length-take n rest) in
    let within : k < length rest = omega (arith, shorter, length-take n rest) in
    let same : (j : ℕ) → j < n → get_or near j 0 ≡ get_or rest j 0 = λ j lt. ap (λ (ys : List ℕ). get_or ys j 0) is ∙ get_or-take n rest j 0 lt in
    let none : (j : ℕ) → j < k → ¬ (p (get_or rest j 0) ≡ true) = λ j lt passes. found.0.before j (omega arith) lt (ap p (same j (omega (arith, lt, under))) ∙ passes) in
    let before : position_or_len p rest ≡ k + position_or_len p (drop k rest) = passed p k rest (omega (arith, within)) none in
    let here : position_or_len p (drop k rest) ≡ 0 =
    ap (position_or_len p) (drop_more rest k 0 within) ∙ first_passes p (get_or rest k 0) (drop (k + 1) rest) (sym (ap p (same k under)) ∙ found.1) in
    stands p xs (i + k) (omega (arith, at, before, here)) (omega (arith, within, long))

-- not among them
pub none_near : (p : ℕ → Bool) (n i : ℕ) (xs rest near behind : List ℕ) → position_or_len p xs ≡ i + position_or_len p rest → n ≤ length rest
    → near ≡ take n rest → behind ≡ drop n rest → IsFirstByte p near None → position_or_len p xs ≡ (i + n) + position_or_len p behind
none_near p n i xs rest near behind at long is left none =
    let same : (j : ℕ) → j < n → get_or near j 0 ≡ get_or rest j 0 = λ j lt. ap (λ (ys : List ℕ). get_or ys j 0) is ∙ get_or-take n rest j 0 lt in
    let all : n ≡ length near = omega (arith, ap length is, length-take n rest, long) in
    let before : position_or_len p rest ≡ n + position_or_len p (drop n rest) = passed p n rest long (λ j lt passes. none j (omega arith) (omega (arith, lt, all)) (ap p (same j lt) ∙ passes)) in
    let there : position_or_len p (drop n rest) ≡ position_or_len p behind = ap (position_or_len p) (sym left) in
    omega (arith, at, before, there)

-- found in what is left, or not
pub found_behind : (p : ℕ → Bool) (i k : ℕ) (xs rest : List ℕ) → position_or_len p xs ≡ i + position_or_len p rest → i + length rest ≡ length xs
    → position p rest ≡ Some k → position p xs ≡ Some (i + k)
found_behind p i k xs rest at long e =
    let found = found_at p rest k e in
    stands p xs (i + k) (omega (arith, at, found.0)) (omega (arith, long, found.1))

pub none_behind : (p : ℕ → Bool) (i : ℕ) (xs rest : List ℕ) → position_or_len p xs ≡ i + position_or_len p rest → i + length rest ≡ length xs
    → position p rest ≡ None → position p xs ≡ None
none_behind p i xs rest at long e = stands_nowhere p xs (omega (arith, at, long, found_nowhere p rest e))
