-- Sums over what a list has from some index on, and over a list in which one value is new.
use Rattle.std.proofs.Common.{◌≡◌, ℕ, zero, suc, ◌+◌, ◌-◌, ◌*◌, ◌≤◌, List, [], ◌∷◌, ◌++◌, length, map, refl, sym, ap, ◌∙◌, arith}
use Rattle.std.specs.Prelude.{Some, slice_get, slice_index_or, slice_set, sum, fold}
use Rattle.std.proofs.Math.Nat.{mul-suc, mul-add, mul-zero}
use Rattle.std.proofs.lemmas.Option.{none-some, same_Some}

-- the sum of what a list has from index k on
abbrev pub sum_from : {X : Type 0} → (X → ℕ) → ℕ → List X → ℕ
sum_from f k [] = 0
sum_from f zero (x ∷ xs) = f x + sum_from f zero xs
sum_from f (suc k) (x ∷ xs) = sum_from f k xs

-- the sum over a list whose first element has index i
abbrev pub sum_at : {X : Type 0} → (ℕ → X → ℕ) → ℕ → List X → ℕ
sum_at f i [] = 0
sum_at f i (x ∷ xs) = f i x + sum_at f (suc i) xs

-- one more at the end
pub from_push : {X : Type 0} (f : X → ℕ) (k : ℕ) (xs : List X) (x : X) → sum_from f k (xs ++ x ∷ []) ≤ sum_from f k xs + f x
from_push f zero [] x = omega arith
from_push f (suc k) [] x = omega arith
from_push f zero (y ∷ ys) x = omega (arith, from_push f zero ys x)
from_push f (suc k) (y ∷ ys) x = from_push f k ys x

-- from after an element on
pub from_behind : {X : Type 0} (f : X → ℕ) (k i : ℕ) (xs : List X) (x : X) → slice_get xs i ≡ Some x → k ≤ i → sum_from f (suc i) xs + f x ≤ sum_from f k xs
from_behind f k i [] x at le = absurd (none-some x at)
from_behind f zero zero (y ∷ ys) x at le = let e = ap f (same_Some _ _ at) in omega (arith, e)
from_behind f zero (suc i) (y ∷ ys) x at le = omega (arith, from_behind f zero i ys x at (omega arith))
from_behind f (suc k) zero (y ∷ ys) x at le = absurd (omega (arith, le))
from_behind f (suc k) (suc i) (y ∷ ys) x at le = from_behind f k i ys x at (omega (arith, le))

-- where each value is at most c
pub from_most : {X : Type 0} (f : X → ℕ) (c : ℕ) → ((x : X) → f x ≤ c) → (k : ℕ) (xs : List X) → sum_from f k xs ≤ c * (length xs - k)
from_most f c h k [] = omega arith
from_most f c h zero (x ∷ xs) =
    let ih = from_most f c h zero xs in
    let one = h x in
    let e : length (x ∷ xs) - zero ≡ suc (length xs - zero) = omega arith in
    let d = ap (λ (n : ℕ). c * n) e ∙ mul-suc c (length xs - zero) in omega (arith, ih, one, d)
from_most f c h (suc k) (x ∷ xs) =
    let e : length (x ∷ xs) - suc k ≡ length xs - k = omega arith in
    let d = ap (λ (n : ℕ). c * n) e in omega (arith, from_most f c h k xs, d)

-- each value of one sum is at most that of another
pub at_le : {X : Type 0} (f g : ℕ → X → ℕ) → ((i : ℕ) (x : X) → f i x ≤ g i x) → (i : ℕ) (xs : List X) → sum_at f i xs ≤ sum_at g i xs
at_le f g h i [] = omega arith
at_le f g h i (x ∷ xs) = omega (arith, h i x, at_le f g h (suc i) xs)

pub at_add : {X : Type 0} (f g : ℕ → X → ℕ) (i : ℕ) (xs : List X) → sum_at (λ j x. f j x + g j x) i xs ≡ sum_at f i xs + sum_at g i xs
at_add f g i [] = refl
at_add f g i (x ∷ xs) = omega (arith, at_add f g (suc i) xs)

sum_more : (a : ℕ) (xs : List ℕ) → fold ◌+◌ a xs ≡ a + sum xs
sum_more a [] = omega arith
sum_more a (x ∷ xs) = omega (arith, sum_more (a + x) xs, sum_more (0 + x) xs)

pub sum_cons : (x : ℕ) (xs : List ℕ) → sum (x ∷ xs) ≡ x + sum xs
sum_cons x xs = omega (arith, sum_more (0 + x) xs)

pub from_sum : {X : Type 0} (f : X → ℕ) (xs : List X) → sum_from f 0 xs ≡ sum (map f xs)
from_sum f [] = refl
from_sum f (x ∷ xs) = ap (λ (n : ℕ). f x + n) (from_sum f xs) ∙ sym (sum_cons (f x) (map f xs))

-- values that don't look at the index
pub at_sum : {X : Type 0} (f : X → ℕ) (i : ℕ) (xs : List X) → sum_at (λ j x. f x) i xs ≡ sum (map f xs)
at_sum f i [] = refl
at_sum f i (x ∷ xs) = ap (λ (n : ℕ). f x + n) (at_sum f (suc i) xs) ∙ sym (sum_cons (f x) (map f xs))

-- and the same times c
pub at_times : {X : Type 0} (f : X → ℕ) (c i : ℕ) (xs : List X) → sum_at (λ j x. c * f x) i xs ≡ c * sum (map f xs)
at_times f c i [] = sym (mul-zero c)
at_times f c i (x ∷ xs) = ap (λ (n : ℕ). c * f x + n) (at_times f c (suc i) xs) ∙ sym (mul-add c (f x) (sum (map f xs))) ∙ ap (λ (n : ℕ). c * n) (sym (sum_cons (f x) (map f xs)))

-- A new value at place k. Past the end there is none, and what stands there counts for nothing
pub at_new : {X : Type 0} (f : ℕ → X → ℕ) (d : X) (i k : ℕ) (xs : List X) (v : X) → (length xs ≤ k → (j : ℕ) → f j d ≡ 0)
    → sum_at f i (slice_set xs k v) + f (i + k) (slice_index_or xs k d) ≤ sum_at f i xs + f (i + k) v
at_new f d i k [] v h = let e = h (omega arith) (i + k) in omega (arith, e)
at_new f d i zero (x ∷ xs) v h =
    let none : i + zero ≡ i = omega arith in
    let a = ap (λ (j : ℕ). f j x) none in
    let b = ap (λ (j : ℕ). f j v) none in omega (arith, a, b)
at_new f d i (suc k) (x ∷ xs) v h =
    let next : i + suc k ≡ suc i + k = omega arith in
    let a = ap (λ (j : ℕ). f j (slice_index_or xs k d)) next in
    let b = ap (λ (j : ℕ). f j v) next in
    omega (arith, a, b, at_new f d (suc i) k xs v (λ le. h (omega (arith, le))))

-- the same for a value that doesn't look at the index
pub whole_new : {X : Type 0} (f : X → ℕ) (d : X) (k : ℕ) (xs : List X) (v : X) → (length xs ≤ k → f d ≡ 0)
    → sum_from f 0 (slice_set xs k v) + f (slice_index_or xs k d) ≤ sum_from f 0 xs + f v
whole_new f d k [] v h = let e = h (omega arith) in omega (arith, e)
whole_new f d zero (x ∷ xs) v h = omega arith
whole_new f d (suc k) (x ∷ xs) v h = omega (arith, whole_new f d k xs v (λ le. h (omega (arith, le))))

-- a new value that counts as much as the old one
pub at_same : {X : Type 0} (f : ℕ → X → ℕ) (d : X) (i k : ℕ) (xs : List X) (v : X) → ((j : ℕ) → f j v ≡ f j (slice_index_or xs k d))
    → sum_at f i (slice_set xs k v) ≡ sum_at f i xs
at_same f d i k [] v h = refl
at_same f d i zero (x ∷ xs) v h = ap (λ (n : ℕ). n + sum_at f (suc i) xs) (h i)
at_same f d i (suc k) (x ∷ xs) v h = ap (λ (n : ℕ). f i x + n) (at_same f d (suc i) k xs v h)
