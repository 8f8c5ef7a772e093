-- Slots as lists of the messages in them.
use Rattle.std.proofs.Common.{◌≡◌, ℕ, zero, suc, ◌+◌, ◌≤◌, List, [], ◌∷◌, ◌++◌, length, get_or, set, drop, Option, Some, None, refl, ap, ◌∙◌, arith, add-one}
use Rattle.geo_base.specs.declared.client.Held.{Held}
use Rattle.client.specs.HeldSlots.{empty_before, held_in}

pub held_in-append : (xs ys : List (Option Held)) → held_in (xs ++ ys) ≡ held_in xs ++ held_in ys
held_in-append [] ys = refl
held_in-append (None ∷ xs) ys = held_in-append xs ys
held_in-append (Some h ∷ xs) ys = ap (λ (hs : List Held). h ∷ hs) (held_in-append xs ys)

pub no_more_than_slots : (xs : List (Option Held)) → length (held_in xs) ≤ length xs
no_more_than_slots [] = omega arith
no_more_than_slots (None ∷ xs) = omega (arith, no_more_than_slots xs)
no_more_than_slots (Some h ∷ xs) = omega (arith, no_more_than_slots xs)

-- a slot that has a message is emptied
pub one_fewer : (xs : List (Option Held)) (slot : ℕ) (h : Held) → get_or xs slot None ≡ Some h → length (held_in (set xs slot None)) + 1 ≡ length (held_in xs)
one_fewer [] slot h is = absurd cc
one_fewer (None ∷ xs) zero h is = absurd cc
one_fewer (Some g ∷ xs) zero h is = omega arith
one_fewer (None ∷ xs) (suc slot) h is = one_fewer xs slot h is
one_fewer (Some g ∷ xs) (suc slot) h is = omega (arith, one_fewer xs slot h is)

-- ---- the first message

pub front_pushed : (xs : List (Option Held)) (h : Held) → empty_before (xs ++ Some h ∷ []) ≡ empty_before xs
front_pushed [] h = refl
front_pushed (None ∷ xs) h = ap (λ (n : ℕ). n + 1) (front_pushed xs h)
front_pushed (Some g ∷ xs) h = refl

pub front_within : (xs : List (Option Held)) → empty_before xs ≤ length xs
front_within [] = omega arith
front_within (None ∷ xs) = omega (arith, front_within xs)
front_within (Some h ∷ xs) = omega arith

pub front_rises : (xs : List (Option Held)) (slot : ℕ) → empty_before xs ≤ empty_before (set xs slot None)
front_rises [] slot = omega arith
front_rises (None ∷ xs) zero = omega arith
front_rises (Some h ∷ xs) zero = omega arith
front_rises (None ∷ xs) (suc slot) = omega (arith, front_rises xs slot)
front_rises (Some h ∷ xs) (suc slot) = omega arith

pub front_from : (xs : List (Option Held)) (n : ℕ) → n ≤ empty_before xs → n + empty_before (drop n xs) ≡ empty_before xs
front_from xs zero h = omega arith
front_from [] (suc n) h = absurd (omega arith)
front_from (None ∷ xs) (suc n) h = omega (arith, front_from xs n (omega arith))
front_from (Some g ∷ xs) (suc n) h = absurd (omega arith)

-- the search for the first message goes on from the first one that was
pub emptied_front : (xs : List (Option Held)) (slot front at : ℕ) → front ≡ empty_before xs → at ≡ front + empty_before (drop front (set xs slot None)) → at ≡ empty_before (set xs slot None)
emptied_front xs slot front at is h = h ∙ front_from (set xs slot None) front (omega (arith, front_rises xs slot))

pub no_message : (xs : List (Option Held)) → length xs ≤ empty_before xs → held_in xs ≡ []
no_message [] h = refl
no_message (None ∷ xs) h = no_message xs (omega arith)
no_message (Some g ∷ xs) h = absurd (omega arith)

pub all_from_first : (xs : List (Option Held)) → held_in (drop (empty_before xs) xs) ≡ held_in xs
all_from_first [] = refl
all_from_first (None ∷ xs) = rw add-one (all_from_first xs)
all_from_first (Some h ∷ xs) = refl

pub held_in_pushed : (xs : List (Option Held)) (h : Held) → held_in (xs ++ Some h ∷ []) ≡ held_in xs ++ h ∷ []
held_in_pushed xs h = held_in-append xs (Some h ∷ [])
