-- A list of numbers without repeats that is long enough has them all.
use Rattle.std.proofs.Common.{◌≡◌, ℕ, zero, suc, ◌<◌, ◌≤◌, Bool, true, false, cond, List, [], ◌∷◌, length, refl, sym, ap, subst, ◌∙◌, ◌==◌, arith}
use Rattle.std.specs.Prelude.{not, filter, ◌||◌, ◌&&◌}
use Rattle.std.proofs.lemmas.Bool.{eqb-true, eq-eqb, false≢true}
use Rattle.std.proofs.lemmas.Bool.Decides.{nat_tests}
use Rattle.geo_base.specs.Cursor.{has}
use Rattle.world_laws.proofs.Walks.Walk.{by_test, left, right}
use Rattle.geo_base.proofs.Bools.{not_true_false}

-- no number twice
abbrev pub apart : List ℕ → Bool
apart [] = true
apart (x ∷ xs) = not (has xs x) && apart xs

-- without one number
abbrev others : ℕ → List ℕ → List ℕ
others m xs = filter (λ x. not (x == m)) xs

-- what is not there can be left out
same_length : (m : ℕ) (xs : List ℕ) → has xs m ≡ false → length (others m xs) ≡ length xs
same_length m [] h = refl
same_length m (x ∷ xs) h = go (x == m) refl h (same_length m xs)
  where
    go : (t : Bool) → (x == m) ≡ t → (t || has xs m) ≡ false → (has xs m ≡ false → length (others m xs) ≡ length xs)
        → length (cond (not t) (x ∷ others m xs) (others m xs)) ≡ suc (length xs)
    go true e h ih = absurd (false≢true (sym h))
    go false e h ih = ap suc (ih h)

-- and what is there once costs one
one_less : (m : ℕ) (xs : List ℕ) → apart xs ≡ true → length xs ≤ suc (length (others m xs))
one_less m [] h = omega arith
one_less m (x ∷ xs) h = go (x == m) refl (one_less m xs (right (not (has xs x)) (apart xs) h)) (not_true_false (has xs x) (left (not (has xs x)) (apart xs) h))
  where
    go : (t : Bool) → (x == m) ≡ t → length xs ≤ suc (length (others m xs)) → has xs x ≡ false
        → suc (length xs) ≤ suc (length (cond (not t) (x ∷ others m xs) (others m xs)))
    go true e ih none =
        let h = same_length m xs (subst (λ z. has xs z ≡ false) (eqb-true x m e) none) in omega (arith, h)
    go false e ih none = omega (arith, ih)

-- what is left is in the list, and is another number
left_in : (m : ℕ) (xs : List ℕ) (c : ℕ) → has (others m xs) c ≡ true → (has xs c ≡ true) × ((c == m) ≡ false)
left_in m [] c h = absurd (false≢true h)
left_in m (x ∷ xs) c h = go (x == m) refl h (left_in m xs c)
  where
    go : (t : Bool) → (x == m) ≡ t → has (cond (not t) (x ∷ others m xs) (others m xs)) c ≡ true → (has (others m xs) c ≡ true → (has xs c ≡ true) × ((c == m) ≡ false))
        → (has (x ∷ xs) c ≡ true) × ((c == m) ≡ false)
    go true e h ih = let r = ih h in (grind (arith, r.0), r.1)
    go false e h ih =
        by_test (x == c)
        (λ is. (subst (λ (b : Bool). (b || has xs c) ≡ true) (sym is) refl, subst (λ z. (z == m) ≡ false) (eqb-true x c is) e))
        (λ is. let r = ih (subst (λ (b : Bool). (b || has (others m xs) c) ≡ true) is h) in (grind (arith, r.0), r.1))

apart_left : (m : ℕ) (xs : List ℕ) → apart xs ≡ true → apart (others m xs) ≡ true
apart_left m [] h = refl
apart_left m (x ∷ xs) h = go (x == m) refl (apart_left m xs (right (not (has xs x)) (apart xs) h)) (not_true_false (has xs x) (left (not (has xs x)) (apart xs) h))
  where
    go : (t : Bool) → (x == m) ≡ t → apart (others m xs) ≡ true → has xs x ≡ false → apart (cond (not t) (x ∷ others m xs) (others m xs)) ≡ true
    go true e ih none = ih
    go false e ih none =
        by_test (has (others m xs) x) (λ there. absurd (false≢true (sym none ∙ (left_in m xs x there).0)))
        (λ gone. subst (λ (b : Bool). (not b && apart (others m xs)) ≡ true) (sym gone) ih)

-- numbers below n that differ are at most n
at_most : (n : ℕ) (xs : List ℕ) → apart xs ≡ true → ((c : ℕ) → has xs c ≡ true → c < n) → length xs ≤ n
at_most zero [] h small = omega arith
at_most zero (x ∷ xs) h small = let lt = small x (subst (λ (b : Bool). (b || has xs x) ≡ true) (sym (eq-eqb x x refl)) refl) in absurd (omega (arith, lt))
at_most (suc n) xs h small =
    let ih = at_most n (others n xs) (apart_left n xs h)
    (λ c there. let r = left_in n xs c there in let lt = small c r.0 in let ne = r.1 in grind (arith, nat_tests, lt, ne)) in
    omega (arith, ih, one_less n xs h)

pub everyone : (n : ℕ) (xs : List ℕ) → apart xs ≡ true → ((c : ℕ) → has xs c ≡ true → c < n) → n ≤ length xs → (c : ℕ) → c < n → has xs c ≡ true
everyone n xs h small many c lt =
    by_test (has xs c) (λ there. there)
    (λ gone.
    let more : apart (c ∷ xs) ≡ true = subst (λ (b : Bool). (not b && apart xs) ≡ true) (sym gone) h in
    let all : (z : ℕ) → has (c ∷ xs) z ≡ true → z < n = λ z there.
    by_test (c == z) (λ is. subst (λ k. k < n) (eqb-true c z is) lt) (λ other. small z (subst (λ (b : Bool). (b || has xs z) ≡ true) other there)) in
    let bound = at_most n (c ∷ xs) more all in
    absurd (omega (arith, bound, many)))
