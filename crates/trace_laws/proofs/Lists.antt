-- Lists and tests over them, by index.
use Rattle.std.proofs.Common.{◌≡◌, ℕ, zero, suc, ◌+◌, ◌<◌, Bool, true, List, [], ◌∷◌, refl, subst, ◌==◌, arith, inl, inr}
use Rattle.std.specs.Prelude.{Some, take, slice_get}
use Rattle.std.specs.List.{list_all, list_any, range_with_len}
use Rattle.std.proofs.lemmas.Bool.{eqb-true, false≢true}
use Rattle.std.proofs.lemmas.Option.{none-some, same_Some}
use Rattle.geo_base.specs.Cursor.{has}
use Rattle.world_laws.proofs.Replicating.Cursors.{either}
use Rattle.world_laws.proofs.Walks.Walk.{left, right}
pub use Rattle.geo_base.proofs.Lists.{get_of_take as of_take}

-- what all pass, each passes
pub all_at : {X : Type 0} (p : X → Bool) (xs : List X) (i : ℕ) (x : X) → list_all p xs ≡ true → slice_get xs i ≡ Some x → p x ≡ true
all_at p [] i x h at = absurd (none-some x at)
all_at p (a ∷ xs) zero x h at = subst (λ y. p y ≡ true) (same_Some _ _ at) (left (p a) (list_all p xs) h)
all_at p (a ∷ xs) (suc i) x h at = all_at p xs i x (right (p a) (list_all p xs) h) at

-- what one passes
pub record Passing {X : Type 0} (p : X → Bool) (xs : List X) : Type 0 where
  pub place : ℕ
  pub it : X
  pub at : slice_get xs place ≡ Some it
  pub passes : p it ≡ true

pub any_at : {X : Type 0} (p : X → Bool) (xs : List X) → list_any p xs ≡ true → Passing p xs
any_at p [] h = absurd (false≢true h)
any_at p (a ∷ xs) h =
    elim (either (p a) (list_any p xs) h) [
      | inl e ↦ record { place = zero; it = a; at = refl; passes = e }
      | inr l ↦ let r = any_at p xs l in record { place = suc r.place; it = r.it; at = r.at; passes = r.passes }
    ]

pub in_take : {X : Type 0} (n : ℕ) (xs : List X) (i : ℕ) (x : X) → i < n → slice_get xs i ≡ Some x → slice_get (take n xs) i ≡ Some x
in_take zero xs i x lt at = absurd (omega (arith, lt))
in_take (suc n) [] i x lt at = absurd (none-some x at)
in_take (suc n) (a ∷ xs) zero x lt at = at
in_take (suc n) (a ∷ xs) (suc i) x lt at = in_take n xs i x (omega (arith, lt)) at

-- one of the numbers from a on
range_get : (a n i : ℕ) → i < n → slice_get (range_with_len a n) i ≡ Some (a + i)
range_get a zero i lt = absurd (omega (arith, lt))
range_get a (suc n) zero lt = let e : a ≡ a + zero = omega arith in subst (λ (k : ℕ). Some a ≡ Some k) e refl
range_get a (suc n) (suc i) lt =
    let e : (a + 1) + i ≡ a + suc i = omega arith in
    subst (λ (k : ℕ). slice_get (range_with_len (a + 1) n) i ≡ Some k) e (range_get (a + 1) n i (omega (arith, lt)))

pub all_below : (p : ℕ → Bool) (n y : ℕ) → list_all p (range_with_len 0 n) ≡ true → y < n → p y ≡ true
all_below p n y h lt = let e : 0 + y ≡ y = omega arith in subst (λ (k : ℕ). p k ≡ true) e (all_at p (range_with_len 0 n) y (0 + y) h (range_get 0 n y lt))

-- a list's index is one that it has
pub all_has : (p : ℕ → Bool) (is : List ℕ) (i : ℕ) → list_all p is ≡ true → has is i ≡ true → p i ≡ true
all_has p [] i h inside = absurd (false≢true inside)
all_has p (k ∷ is) i h inside =
    elim (either (k == i) (has is i) inside) [
      | inl e ↦ subst (λ (j : ℕ). p j ≡ true) (eqb-true k i e) (left (p k) (list_all p is) h)
      | inr l ↦ all_has p is i (right (p k) (list_all p is) h) l
    ]
