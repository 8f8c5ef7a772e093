-- Two lists that are numbered through: what setting a place of one of them changes.
use Rattle.std.proofs.Common.{◌≡◌, ℕ, ◌+◌, ◌-◌, ◌<◌, ◌≤◌, Bool, true, false, List, length, refl, sym, ap, subst, ◌∙◌, ◌==◌, arith, nat_lt}
use Rattle.std.specs.Prelude.{if◌then◌else◌, slice_index_or, slice_set}
use Rattle.std.proofs.lemmas.Bool.{eqb-true, eq-eqb, false≢true, ltb-false, ltb-true, lt-ltb}
use Rattle.std.proofs.lemmas.List.{get_or-set_same, get_or-set_other}
use Rattle.world_laws.proofs.Walks.Walk.{on_true}

-- two lists in a row, looked at by number: of n things the first, then the second
abbrev pub in_either : {X Y Z : Type 0} → (X → Z) → (Y → Z) → ℕ → List X → List Y → X → (ℕ → Y) → ℕ → Z
in_either f g n xs ys d d' m = if nat_lt m n then f (slice_index_or xs m d) else g (slice_index_or ys (m - n) (d' (m - n)))

-- one of the first changes
pub first_set : {X Y Z : Type 0} (f : X → Z) (g : Y → Z) (n : ℕ) (xs : List X) (ys : List Y) (d : X) (d' : ℕ → Y) (i m : ℕ) (v : X) → i < n → i < length xs
    → in_either f g n (slice_set xs i v) ys d d' m ≡ (if i == m then f v else in_either f g n xs ys d d' m)
first_set {X} {Y} {Z} f g n xs ys d d' i m v lt there = by (i == m) refl
  where
    by : (b : Bool) → (i == m) ≡ b → in_either f g n (slice_set xs i v) ys d d' m ≡ (if b then f v else in_either f g n xs ys d d' m)
    by true e =
        let P : ℕ → Type 0 = λ k. in_either f g n (slice_set xs i v) ys d d' k ≡ f v in
        subst P (eqb-true i m e) (on_true (nat_lt i n) _ _ (lt-ltb i n lt) ∙ ap f (get_or-set_same xs i v d there))
    by false e =
        ap (λ (u : X). if nat_lt m n then f u else g (slice_index_or ys (m - n) (d' (m - n)))) (get_or-set_other xs i m v d (λ is. false≢true (sym e ∙ eq-eqb i m (sym is))))

-- one of the second changes
pub second_set : {X Y Z : Type 0} (f : X → Z) (g : Y → Z) (n : ℕ) (xs : List X) (ys : List Y) (d : X) (d' : ℕ → Y) (i m : ℕ) (v : Y) → i < length ys
    → in_either f g n xs (slice_set ys i v) d d' m ≡ (if n + i == m then g v else in_either f g n xs ys d d' m)
second_set {X} {Y} {Z} f g n xs ys d d' i m v there = by (n + i == m) refl
  where
    past : (b : Bool) → nat_lt (n + i) n ≡ b → (if b then f (slice_index_or xs (n + i) d) else g (slice_index_or (slice_set ys i v) (n + i - n) (d' (n + i - n)))) ≡ g v
    past true e = let h = ltb-true _ _ e in absurd (omega (arith, h))
    past false e =
        let at : i ≡ n + i - n = omega arith in
        let P : ℕ → Type 0 = λ k. g (slice_index_or (slice_set ys i v) k (d' k)) ≡ g v in
        subst P at (ap g (get_or-set_same ys i v (d' i) there))

    other : (b : Bool) → nat_lt m n ≡ b → (n + i == m) ≡ false
        → (if b then f (slice_index_or xs m d) else g (slice_index_or (slice_set ys i v) (m - n) (d' (m - n))))
        ≡ (if b then f (slice_index_or xs m d) else g (slice_index_or ys (m - n) (d' (m - n))))
    other true e ne = refl
    other false e ne =
        let le : n ≤ m = ltb-false m n e in
        ap g (get_or-set_other ys i (m - n) v (d' (m - n))
        (λ is. let same : n + i ≡ m = omega (arith, is, le) in false≢true (sym ne ∙ eq-eqb (n + i) m same)))

    by : (b : Bool) → (n + i == m) ≡ b → in_either f g n xs (slice_set ys i v) d d' m ≡ (if b then g v else in_either f g n xs ys d d' m)
    by true e =
        let P : ℕ → Type 0 = λ k. in_either f g n xs (slice_set ys i v) d d' k ≡ g v in
        subst P (eqb-true (n + i) m e) (past (nat_lt (n + i) n) refl)
    by false e = other (nat_lt m n) refl e
