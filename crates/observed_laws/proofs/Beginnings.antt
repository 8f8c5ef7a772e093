-- Beginnings of lists of entries, and tests over them.
use Rattle.std.proofs.Common.{◌≡◌, ℕ, zero, suc, ◌+◌, ◌<◌, ◌≤◌, Bool, true, false, cond, List, [], ◌∷◌, ◌++◌, length, refl, sym, ap, subst, ◌∙◌, arith, inl, inr, ◌⊎◌}
use Rattle.std.specs.Prelude.{Some, slice_get, take, filter, map, slice_index_or, ◌&&◌}
use Rattle.std.specs.List.{range_with_len}
use Rattle.std.proofs.lemmas.Option.{same_Some, slice_get_within}
use Rattle.geo_base.specs.declared.entry.Entry.{Entry}
use Rattle.geo_base.specs.Audit.{same_entry}
use Rattle.observation.specs.Safe.{Begins}
use Rattle.trace_laws.proofs.Snapshots.{entry_itself}
use Rattle.world_laws.proofs.OnceInOrder.Members.{below_or, get_left, get_within}

-- one who goes on is begun by what it goes on from
pub begins_of : (ps qs more : List Entry) → qs ≡ ps ++ more → Begins ps qs
begins_of ps qs more whole k e at =
    (e, subst (λ (l : List Entry). slice_get l k ≡ Some e) (sym whole) (get_left ps more k e at), entry_itself e)

shorter_begins : (ps a qs b : List Entry) → ps ++ a ≡ qs ++ b → length ps ≤ length qs → Begins ps qs
shorter_begins ps a qs b same le k e at =
    let lt = slice_get_within ps k e at in
    let there : slice_get (qs ++ b) k ≡ Some e = subst (λ (l : List Entry). slice_get l k ≡ Some e) same (get_left ps a k e at) in
    (e, sym (get_within qs b k (omega (arith, lt, le))) ∙ there, entry_itself e)

-- of two beginnings of one list one begins the other
pub one_begins : (ps a qs b : List Entry) → ps ++ a ≡ qs ++ b → Begins ps qs ⊎ Begins qs ps
one_begins ps a qs b same =
    elim (below_or (length ps) (length qs)) [
      | inl lt ↦ inl (shorter_begins ps a qs b same (omega (arith, lt)))
      | inr le ↦ inr (shorter_begins qs b ps a (sym same) le)
    ]

-- what both have at a place is the same
pub both_same : (ps a qs b : List Entry) (k : ℕ) (e f : Entry) → ps ++ a ≡ qs ++ b → slice_get ps k ≡ Some e → slice_get qs k ≡ Some f → same_entry e f ≡ true
both_same ps a qs b k e f same ate atf =
    let here : slice_get (qs ++ b) k ≡ Some e = subst (λ (l : List Entry). slice_get l k ≡ Some e) same (get_left ps a k e ate) in
    subst (λ (d : Entry). same_entry e d ≡ true) (same_Some _ _ (sym here ∙ get_left qs b k f atf)) (entry_itself e)

-- a test of what another one leaves
pub filter_both : (p q : Entry → Bool) (xs : List Entry) → filter q (filter p xs) ≡ filter (λ (e : Entry). p e && q e) xs
filter_both p q [] = refl
filter_both p q (x ∷ xs) = by (p x) (filter_both p q xs)
  where
    by : (b : Bool) → filter q (filter p xs) ≡ filter (λ (e : Entry). p e && q e) xs
        → filter q (cond b (x ∷ filter p xs) (filter p xs)) ≡ cond (b && q x) (x ∷ filter (λ (e : Entry). p e && q e) xs) (filter (λ (e : Entry). p e && q e) xs)
    by true h = ap (λ (l : List Entry). cond (q x) (x ∷ l) l) h
    by false h = h

-- the first of the first so many
pub take_first : {X : Type 0} (k m : ℕ) (xs : List X) → k ≤ m → take k (take m xs) ≡ take k xs
take_first zero m xs le = refl
take_first (suc k) zero xs le = absurd (omega (arith, le))
take_first (suc k) (suc m) [] le = refl
take_first (suc k) (suc m) (x ∷ xs) le = ap (λ l. x ∷ l) (take_first k m xs (omega (arith, le)))

-- what is made of a number of a range
pub made_at : {X : Type 0} (f : ℕ → X) (d : X) (a n k : ℕ) → k < n → slice_index_or (map f (range_with_len a n)) k d ≡ f (a + k)
made_at f d a zero k lt = absurd (omega (arith, lt))
made_at f d a (suc n) zero lt = let e : a ≡ a + zero = omega arith in ap f e
made_at f d a (suc n) (suc k) lt = let e : (a + 1) + k ≡ a + suc k = omega arith in made_at f d (a + 1) n k (omega (arith, lt)) ∙ ap f e

pub made_here : {X : Type 0} (f : ℕ → X) (d : X) (n k : ℕ) → k < n → slice_index_or (map f (range_with_len 0 n)) k d ≡ f k
made_here f d n k lt = let e : 0 + k ≡ k = omega arith in made_at f d 0 n k lt ∙ ap f e
