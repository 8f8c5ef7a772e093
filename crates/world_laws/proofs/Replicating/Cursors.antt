-- A replicator's cursor: what it has after one more index, and what the next index to read tells.
use Rattle.std.proofs.Common.{◌≡◌, ℕ, zero, suc, ◌+◌, ◌<◌, ◌≤◌, Bool, true, false, List, [], ◌∷◌, refl, sym, ap, ◌∙◌, ◌==◌, arith, inl, inr, ◌⊎◌}
use Rattle.std.specs.Prelude.{Some, if◌then◌else◌, nat_lt}
use Rattle.std.proofs.lemmas.Bool.{eqb-true, eq-eqb, false≢true}
use Rattle.std.proofs.lemmas.Bool.Decides.{nat_tests}
use Rattle.std.proofs.lemmas.Option.{none-some, same_Some}
use Rattle.geo_base.specs.Cursor.{has, next_open, with_index}
use Rattle.world_laws.proofs.Walks.Walk.{on_if, on_test}
pub use Rattle.geo_base.proofs.Bools.{or_cases as either, or_of_first as or_left, or_of_second as or_right}

-- one more index leaves those that are there
pub has_more : (set : List ℕ) (i j : ℕ) → has set j ≡ true → has (with_index set i) j ≡ true
has_more [] i j h = absurd (false≢true h)
has_more (x ∷ xs) i j h =
    on_if (λ (l : List ℕ). has l j ≡ true) (nat_lt i x) (i ∷ x ∷ xs) _ (or_right (i == j) _ h)
    (on_if (λ (l : List ℕ). has l j ≡ true) (x == i) (x ∷ xs) (x ∷ with_index xs i) h
    (elim (either (x == j) (has xs j) h) [
      | inl e ↦ or_left (x == j) _ e
      | inr k ↦ or_right (x == j) _ (has_more xs i j k)
    ]))

-- it is there
pub has_it : (set : List ℕ) (i : ℕ) → has (with_index set i) i ≡ true
has_it [] i = or_left (i == i) false (eq-eqb i i refl)
has_it (x ∷ xs) i =
    on_if (λ (l : List ℕ). has l i ≡ true) (nat_lt i x) (i ∷ x ∷ xs) _ (or_left (i == i) _ (eq-eqb i i refl))
    (on_test (λ (l : List ℕ). has l i ≡ true) (x == i) (x ∷ xs) (x ∷ with_index xs i) (λ e. or_left (x == i) _ e) (λ _. or_right (x == i) _ (has_it xs i)))

-- and nothing else is new
less_behind : (x i j : ℕ) (xs : List ℕ) → (has (with_index xs i) j ≡ true → (i ≡ j) ⊎ (has xs j ≡ true)) → has (x ∷ with_index xs i) j ≡ true
    → (i ≡ j) ⊎ (has (x ∷ xs) j ≡ true)
less_behind x i j xs ih h =
    elim (either (x == j) (has (with_index xs i) j) h) [
      | inl e ↦ inr (or_left (x == j) (has xs j) e)
      | inr r ↦ elim (ih r) [ inl e ↦ inl e | inr m ↦ inr (or_right (x == j) (has xs j) m) ]
    ]

less_at : (x i j : ℕ) (xs : List ℕ) (b c : Bool) → (has (with_index xs i) j ≡ true → (i ≡ j) ⊎ (has xs j ≡ true))
    → has (if b then i ∷ x ∷ xs else if c then x ∷ xs else x ∷ with_index xs i) j ≡ true → (i ≡ j) ⊎ (has (x ∷ xs) j ≡ true)
less_at x i j xs true c ih h = elim (either (i == j) (has (x ∷ xs) j) h) [ inl e ↦ inl (eqb-true i j e) | inr m ↦ inr m ]
less_at x i j xs false true ih h = inr h
less_at x i j xs false false ih h = less_behind x i j xs ih h

pub has_less : (set : List ℕ) (i j : ℕ) → has (with_index set i) j ≡ true → (i ≡ j) ⊎ (has set j ≡ true)
has_less [] i j h = elim (either (i == j) false h) [ inl e ↦ inl (eqb-true i j e) | inr k ↦ absurd (false≢true k) ]
has_less (x ∷ xs) i j h = less_at x i j xs (nat_lt i x) (x == i) (has_less xs i j) h

-- the next index to read: it is among those asked for, and all before it are acknowledged
pub record IsNextOpen (set : List ℕ) (from more i : ℕ) : Type 0 where
  pub low : from ≤ i
  pub high : i < from + more
  pub before : (j : ℕ) → from ≤ j → j < i → has set j ≡ true

open_step : (set : List ℕ) (from more i : ℕ) (b : Bool) → has set from ≡ b
    → (if b then next_open set (from + 1) more else Some from) ≡ Some i
    → (next_open set (from + 1) more ≡ Some i → IsNextOpen set (from + 1) more i) → IsNextOpen set from (suc more) i
open_step set from more i true h e ih =
    let n = ih e in
    record {
      low = omega (arith, n.low);
      high = omega (arith, n.high);
      before = λ j lo hi. at set from more i h n j lo hi;
    }
  where
    at : (set : List ℕ) (from more i : ℕ) → has set from ≡ true → IsNextOpen set (from + 1) more i → (j : ℕ) → from ≤ j → j < i → has set j ≡ true
    at set from more i h n j lo hi = by (from == j) refl
      where
        by : (b : Bool) → (from == j) ≡ b → has set j ≡ true
        by true e = ap (has set) (sym (eqb-true from j e)) ∙ h
        by false e = n.before j (grind (arith, nat_tests, e, lo)) hi
open_step set from more i false h e ih =
    let is : from ≡ i = same_Some _ _ e in
    record { low = omega (arith, is); high = omega (arith, is); before = λ j lo hi. absurd (omega (arith, is, lo, hi)) }

pub next_is : (set : List ℕ) (from more i : ℕ) → next_open set from more ≡ Some i → IsNextOpen set from more i
next_is set from zero i e = absurd (none-some i e)
next_is set from (suc more) i e = open_step set from more i (has set from) refl e (next_is set (from + 1) more i)
