-- What a cursor gains by a write: the indexes that are new, which make the same of it as all that the write names.
use Rattle.std.proofs.Common.{◌≡◌, ℕ, Bool, true, false, List, [], ◌∷◌, filter, refl, sym, subst, ◌==◌, inl, inr, not}
use Rattle.std.specs.Prelude.{if◌then◌else◌}
use Rattle.std.specs.List.{list_all}
use Rattle.std.proofs.lemmas.Bool.{eq-eqb, eqb-true, false≢true}
use Rattle.geo_base.specs.Cursor.{has, with_indexes}
use Rattle.world_laws.proofs.Replicating.Cursors.{either, or_left, or_right}
use Rattle.world_laws.proofs.Dispatching.Remembers.{has_either, has_left, has_new, has_still, not_false}
use Rattle.world_laws.proofs.Walks.Walk.{both, by_test}
use Rattle.geo_base.specs.Traced.{gained}
use Rattle.cursor_acks.proofs.Sets.{Rising, rising_with_indexes, same_set}

pub both_ways : (a b : Bool) → (a ≡ true → b ≡ true) → (b ≡ true → a ≡ true) → a ≡ b
both_ways true b f g = sym (f refl)
both_ways false true f g = g refl
both_ways false false f g = refl

pub filter_has : (p : ℕ → Bool) (is : List ℕ) (i : ℕ) → has (filter p is) i ≡ true → (has is i ≡ true) × (p i ≡ true)
filter_has p [] i h = absurd (false≢true h)
filter_has p (k ∷ is) i h = by (p k) refl h (filter_has p is i)
  where
    more : (has is i ≡ true) × (p i ≡ true) → (has (k ∷ is) i ≡ true) × (p i ≡ true)
    more r = (or_right (k == i) (has is i) r.0, r.1)

    by : (b : Bool) → p k ≡ b → has (if b then k ∷ filter p is else filter p is) i ≡ true → (has (filter p is) i ≡ true → (has is i ≡ true) × (p i ≡ true))
        → (has (k ∷ is) i ≡ true) × (p i ≡ true)
    by false t g ih = more (ih g)
    by true t g ih =
        elim (either (k == i) (has (filter p is) i) g) [
          | inl e ↦ (or_left (k == i) (has is i) e, subst (λ (j : ℕ). p j ≡ true) (eqb-true k i e) t)
          | inr r ↦ more (ih r)
        ]

pub all_from_has : (p : ℕ → Bool) (is : List ℕ) → ((i : ℕ) → has is i ≡ true → p i ≡ true) → list_all p is ≡ true
all_from_has p [] h = refl
all_from_has p (k ∷ is) h =
    both (p k) (list_all p is) (h k (or_left (k == k) (has is k) (eq-eqb k k refl))) (all_from_has p is (λ i inside. h i (or_right (k == i) (has is i) inside)))

-- what is gained is named, and new
pub gained_is : (set is : List ℕ) (i : ℕ) → has (gained set is) i ≡ true → (has is i ≡ true) × (not (has set i) ≡ true)
gained_is set is i h =
    let r = filter_has (λ j. not (has set j)) (with_indexes [] is) i h in
    (elim (has_either is [] i r.0) [ inl none ↦ absurd (false≢true none) | inr named ↦ named ], r.1)

pub gains_same : (set is : List ℕ) → Rising 0 set → with_indexes set (gained set is) ≡ with_indexes set is
gains_same set is rising =
    same_set 0 (with_indexes set (gained set is)) (with_indexes set is) (rising_with_indexes set (gained set is) rising) (rising_with_indexes set is rising)
    (λ j. both_ways (has (with_indexes set (gained set is)) j) (has (with_indexes set is) j)
    (λ h. elim (has_either (gained set is) set j h) [ inl old ↦ has_still is set j old | inr new ↦ has_new is set j (gained_is set is j new).0 ])
    (λ h.
    elim (has_either is set j h) [
      | inl old ↦ has_still (gained set is) set j old
      | inr named ↦
          by_test (has set j) (λ old. has_still (gained set is) set j old)
          (λ new. has_new (gained set is) set j (has_left (λ i. not (has set i)) (with_indexes [] is) j (has_new is [] j named) (not_false (has set j) new)))
    ]))
