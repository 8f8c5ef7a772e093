-- Two ascending lists with the same members are one list.
use Rattle.std.proofs.Common.{◌≡◌, ℕ, zero, suc, ◌+◌, ◌<◌, ◌≤◌, ◌==◌, nat_lt, true, false, List, [], ◌∷◌, ◌++◌, refl, ap, sym, ◌∙◌, arith}
use Rattle.std.specs.Prelude.{◌&&◌, ◌||◌, nat_le, if◌then◌else◌}
use Rattle.std.specs.List.{range_with_len}
use Rattle.std.proofs.lemmas.Bool.{cond_both}
use Rattle.std.proofs.lemmas.Bool.Decides.{nat_tests}
use Rattle.geo_base.specs.Cursor.{below, has, with_index, with_indexes}

-- each number is at least as high as the one before it and one more
abbrev pub Rising : ℕ → List ℕ → Type 0
Rising low [] = Unit {0}
Rising low (x ∷ xs) = (low ≤ x) × Rising (x + 1) xs

pub rising_higher : (low low' : ℕ) (xs : List ℕ) → low' ≤ low → Rising low xs → Rising low' xs
rising_higher low low' [] le h = tt
rising_higher low low' (x ∷ xs) le h = (omega (arith, h.0), h.1)

-- what is below all of them is none of them
pub has_below_low : (low : ℕ) (xs : List ℕ) (j : ℕ) → Rising low xs → j < low → has xs j ≡ false
has_below_low low [] j h lt = refl
has_below_low low (x ∷ xs) j h lt =
    let other : (x == j) ≡ false = grind (arith, nat_tests, h.0) in
    rw (other, has_below_low (x + 1) xs j h.1 (omega (arith, h.0))) refl

has_first : (x : ℕ) (xs : List ℕ) → has (x ∷ xs) x ≡ true
has_first x xs =
    let same : (x == x) ≡ true = grind (arith, nat_tests) in
    rw same refl

first_is_low : (low : ℕ) (xs : List ℕ) (j : ℕ) → Rising low xs → has xs j ≡ true → low ≤ j
first_is_low low xs j h e = grind (arith, has_below_low low xs j h)

tail_has : (x : ℕ) (xs ys : List ℕ) (j : ℕ) → Rising (x + 1) xs → Rising (x + 1) ys → has (x ∷ xs) j ≡ has (x ∷ ys) j → has xs j ≡ has ys j
tail_has x xs ys j h k e =
    grind (arith, nat_tests, has_below_low (x + 1) xs j h, has_below_low (x + 1) ys j k)

pub same_set : (low : ℕ) (xs ys : List ℕ) → Rising low xs → Rising low ys → ((j : ℕ) → has xs j ≡ has ys j) → xs ≡ ys
same_set low [] [] h k e = refl
same_set low [] (y ∷ ys) h k e = absurd (grind (arith, e y, has_first y ys))
same_set low (x ∷ xs) [] h k e = absurd (grind (arith, e x, has_first x xs))
same_set low (x ∷ xs) (y ∷ ys) h k e =
    let up : y ≤ x = first_is_low y (y ∷ ys) x (omega arith, k.1) (sym (e x) ∙ has_first x xs) in
    let down : x ≤ y = first_is_low x (x ∷ xs) y (omega arith, h.1) (e y ∙ has_first y ys) in
    let same : y ≡ x = omega arith in
    let k' : Rising (x + 1) ys = rw same at k.1 in
    let e' : (j : ℕ) → has (x ∷ xs) j ≡ has (x ∷ ys) j = λ j. rw same at (e j) in
    rw same (ap (λ zs. x ∷ zs) (same_set (x + 1) xs ys h.1 k' (λ j. tail_has x xs ys j h.1 k' (e' j))))

pub has_append : (xs ys : List ℕ) (j : ℕ) → has (xs ++ ys) j ≡ (has xs j || has ys j)
has_append [] ys j = refl
has_append (x ∷ xs) ys j = grind (arith, has_append xs ys j)

pub has_with_index : (xs : List ℕ) (i j : ℕ) → has (with_index xs i) j ≡ ((i == j) || has xs j)
has_with_index [] i j = refl
has_with_index (x ∷ xs) i j = grind (arith, nat_tests, has_with_index xs i j)

pub has_with_indexes : (xs is : List ℕ) (j : ℕ) → has (with_indexes xs is) j ≡ (has is j || has xs j)
has_with_indexes xs [] j = refl
has_with_indexes xs (i ∷ is) j = grind (arith, has_with_indexes (with_index xs i) is j, has_with_index xs i j)

pub rising_with_index : (low : ℕ) (xs : List ℕ) (i : ℕ) → Rising low xs → low ≤ i → Rising low (with_index xs i)
rising_with_index low [] i h le = (le, tt)
rising_with_index low (x ∷ xs) i h le =
    cond_both (nat_lt i x) (i ∷ x ∷ xs) (if x == i then x ∷ xs else x ∷ with_index xs i) (Rising low)
    (λ e. (le, (grind (arith, nat_tests, e), h.1)))
    (λ e. cond_both (x == i) (x ∷ xs) (x ∷ with_index xs i) (Rising low) (λ _. h) (λ f. (h.0, rising_with_index (x + 1) xs i h.1 (grind (arith, nat_tests, e, f)))))

pub rising_with_indexes : (xs is : List ℕ) → Rising 0 xs → Rising 0 (with_indexes xs is)
rising_with_indexes xs [] h = h
rising_with_indexes xs (i ∷ is) h = rising_with_indexes (with_index xs i) is (rising_with_index 0 xs i h (omega arith))

pub has_range : (a n j : ℕ) → has (range_with_len a n) j ≡ (nat_le a j && nat_lt j (a + n))
has_range a zero j = grind (arith, nat_tests)
has_range a (suc n) j = grind (arith, nat_tests, has_range (a + 1) n j)

pub rising_range : (low a n : ℕ) (xs : List ℕ) → low ≤ a → Rising (a + n) xs → Rising low (range_with_len a n ++ xs)
rising_range low a zero xs le h = rising_higher (a + 0) low xs (omega arith) h
rising_range low a (suc n) xs le h =
    let more : a + suc n ≡ a + 1 + n = omega arith in
    (le, rising_range (a + 1) (a + 1) n xs (omega arith) (rw more at h))

pub has_up_to : (set : List ℕ) (i j : ℕ) → has (with_indexes set (below (i + 1))) j ≡ (nat_le j i || has set j)
has_up_to set i j = grind (arith, nat_tests, has_with_indexes set (below (i + 1)) j, has_range 0 (i + 1) j)

pub has_all : (len j : ℕ) → has (below len) j ≡ nat_lt j len
has_all len j = grind (arith, nat_tests, has_range 0 len j)
