-- A list whose items are changed one after another.
use Rattle.std.proofs.Common.{◌≡◌, ℕ, zero, suc, ◌+◌, ◌<◌, ◌≤◌, List, [], ◌∷◌, ◌++◌, length, get_or, set, map, refl, ap, arith, add-one}
use Rattle.std.specs.Prelude.{take}
use Rattle.std.proofs.lemmas.Grind.{common_steps}

-- the first n items changed
abbrev pub mapped_to : {X : Type 0} → (X → X) → ℕ → List X → List X
mapped_to f zero xs = xs
mapped_to f (suc n) [] = []
mapped_to f (suc n) (x ∷ xs) = f x ∷ mapped_to f n xs

-- the next item is still as it was
pub next_mapped : {X : Type 0} (f : X → X) (n : ℕ) (xs : List X) (d : X) → get_or (mapped_to f n xs) n d ≡ get_or xs n d
next_mapped f zero xs d = refl
next_mapped f (suc n) [] d = refl
next_mapped f (suc n) (x ∷ xs) d = next_mapped f n xs d

set_more : {X : Type 0} (f : X → X) (n : ℕ) (xs : List X) (d : X) → n < length xs → set (mapped_to f n xs) n (f (get_or xs n d)) ≡ mapped_to f (suc n) xs
set_more f zero [] d h = absurd (omega arith)
set_more f zero (x ∷ xs) d h = refl
set_more f (suc n) [] d h = absurd (omega arith)
set_more f (suc n) (x ∷ xs) d h = ap (λ ys. f x ∷ ys) (set_more f n xs d (omega arith))

pub set_mapped : {X : Type 0} (f : X → X) (n : ℕ) (xs : List X) (d : X) → n < length xs → set (mapped_to f n xs) n (f (get_or xs n d)) ≡ mapped_to f (n + 1) xs
set_mapped f n xs d h = rw add-one (set_more f n xs d h)

pub all_mapped : {X : Type 0} (f : X → X) (n : ℕ) (xs : List X) → length xs ≤ n → mapped_to f n xs ≡ map f xs
all_mapped f zero [] h = refl
all_mapped f zero (x ∷ xs) h = absurd (omega arith)
all_mapped f (suc n) [] h = refl
all_mapped f (suc n) (x ∷ xs) h = ap (λ ys. f x ∷ ys) (all_mapped f n xs (omega arith))

pub left_whole : {X : Type 0} (n : ℕ) (xs ys : List X) → length xs ≡ n → take n (xs ++ ys) ≡ xs
left_whole n xs ys e = grind (arith, common_steps)

pub length_mapped : {X : Type 0} (f : X → X) (n : ℕ) (xs : List X) → length (mapped_to f n xs) ≡ length xs
length_mapped f zero xs = refl
length_mapped f (suc n) [] = refl
length_mapped f (suc n) (x ∷ xs) = ap (λ k. suc k) (length_mapped f n xs)
