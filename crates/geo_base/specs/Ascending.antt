-- Tables whose items ascend by a number that each has, its key.
use Rattle.std.specs.Prelude.{◌≡◌, ◌≢◌, ℕ, ◌<◌, ◌≤◌, List, length, slice_index_or}
use Rattle.std.specs.List.{AllPairs, AllWithin, HoldsAt}

-- each item has a greater key than those before it
abbrev pub IsAscending : {X : Type 0} → (X → ℕ) → List X → Type 0
IsAscending key xs = AllPairs (λ x y. key x < key y) xs

-- the items before a place have keys below k, and those from it on have not
pub record IsPlace (X : Type 0) (key : X → ℕ) (xs : List X) (k at : ℕ) : Type 0 where
  pub within : at ≤ length xs
  pub low : AllWithin (λ x. key x < k) xs 0 at
  pub high : AllWithin (λ x. k ≤ key x) xs at (length xs)

-- the item at a place has key k
pub record IsHere (X : Type 0) (key : X → ℕ) (xs : List X) (k at : ℕ) : Type 0 where
  pub place : IsPlace X key xs k at
  pub within : at < length xs
  pub same : HoldsAt (λ x. key x ≡ k) xs at

-- no item has key k, and this is the place where one would stand
pub record IsGap (X : Type 0) (key : X → ℕ) (xs : List X) (k at : ℕ) : Type 0 where
  pub place : IsPlace X key xs k at
  pub other : (d : X) → at < length xs → key (slice_index_or xs at d) ≢ k
