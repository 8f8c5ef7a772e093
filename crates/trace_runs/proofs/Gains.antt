-- What a cursor gains, index by index.
use Rattle.std.proofs.Common.{◌≡◌, ℕ, zero, suc, ◌+◌, ◌-◌, ◌<◌, ◌≤◌, Bool, true, false, not, List, [], ◌∷◌, inl, inr, drop, length, filter, refl, sym, ap, ◌∙◌, arith}
use Rattle.std.specs.Prelude.{◌&&◌, if◌then◌else◌}
use Rattle.std.specs.List.{range_with_len}
use Rattle.std.proofs.lemmas.Bool.{cases_lt}
use Rattle.std.proofs.lemmas.List.{drop_all}
use Rattle.std.proofs.lemmas.Bool.Decides.{nat_tests}
use Rattle.geo_base.specs.Cursor.{below, has, with_index, with_indexes}
use Rattle.geo_base.specs.Traced.{gained}
use Rattle.cursor_acks.specs.Acks.{IsFirstOpen}
use Rattle.cursor_acks.proofs.Sets.{Rising, has_with_indexes, rising_higher, rising_with_indexes, same_set}
use Rattle.replicated_subs.proofs.Walk.{to_open, walk}

-- ---- lists that ascend

rising_filter : (f : ℕ → Bool) (low : ℕ) (xs : List ℕ) → Rising low xs → Rising low (filter f xs)
rising_filter f low [] h = tt
rising_filter f low (x ∷ xs) h = by (f x) (rising_filter f (x + 1) xs h.1)
  where
    by : (b : Bool) → Rising (x + 1) (filter f xs) → Rising low (if b then x ∷ filter f xs else filter f xs)
    by true rest = (h.0, rest)
    by false rest = rising_higher (x + 1) low (filter f xs) (omega (arith, h.0)) rest

has_filter : (f : ℕ → Bool) (xs : List ℕ) (j : ℕ) → has (filter f xs) j ≡ (has xs j && f j)
has_filter f [] j = refl
has_filter f (x ∷ xs) j = by (f x) refl (has_filter f xs j)
  where
    by : (b : Bool) → f x ≡ b → has (filter f xs) j ≡ (has xs j && f j) → has (if b then x ∷ filter f xs else filter f xs) j ≡ (has (x ∷ xs) j && f j)
    by true is ih = grind (arith, nat_tests, is, ih)
    by false is ih = grind (arith, nat_tests, is, ih)

-- the same set is gained, whether it is taken of what is named or of all that is
abbrev pub is_new : List ℕ → ℕ → Bool
is_new set j = not (has set j)

each_gained : (set is : List ℕ) → with_indexes [] (filter (is_new set) is) ≡ gained set is
each_gained set is =
    same_set 0 (with_indexes [] (filter (is_new set) is)) (gained set is) (rising_with_indexes [] (filter (is_new set) is) tt)
    (rising_filter (is_new set) 0 (with_indexes [] is) (rising_with_indexes [] is tt))
    (λ j.
    let a = has_with_indexes [] (filter (is_new set) is) j in let b = has_filter (is_new set) is j in let c = has_filter (is_new set) (with_indexes [] is) j in let d = has_with_indexes [] is j in
    grind (arith, a, b, c, d))

pub each_end : (set is so_far : List ℕ) (i : ℕ) → length is ≤ i → with_indexes so_far (filter (is_new set) (drop i is)) ≡ with_indexes [] (filter (is_new set) is) → so_far ≡ gained set is
each_end set is so_far i past before =
    ap (λ (xs : List ℕ). with_indexes so_far (filter (is_new set) xs)) (sym (drop_all i is past)) ∙ (before ∙ each_gained set is)

-- ---- walks

-- the indexes of a walk that are new
abbrev pub new_in : (ℕ → Bool) → List ℕ → ℕ → Bool
new_in p set j = p j && not (has set j)

walk_filter : (p : ℕ → Bool) (set : List ℕ) (k n : ℕ) → walk (new_in p set) k n ≡ filter (is_new set) (walk p k n)
walk_filter p set k zero = refl
walk_filter p set k (suc n) = by (p k) (has set k) (walk_filter p set (k + 1) n) refl
  where
    by : (a b : Bool) → walk (new_in p set) (k + 1) n ≡ filter (is_new set) (walk p (k + 1) n) → has set k ≡ b
        → (if a && not b then k ∷ walk (new_in p set) (k + 1) n else walk (new_in p set) (k + 1) n) ≡ filter (is_new set) (if a then k ∷ walk p (k + 1) n else walk p (k + 1) n)
    by false b ih is = ih
    by true true ih is = ih ∙ ap (λ (c : Bool). if not c then k ∷ filter (is_new set) (walk p (k + 1) n) else filter (is_new set) (walk p (k + 1) n)) (sym is)
    by true false ih is =
        ap (λ (xs : List ℕ). k ∷ xs) ih ∙ ap (λ (c : Bool). if not c then k ∷ filter (is_new set) (walk p (k + 1) n) else filter (is_new set) (walk p (k + 1) n)) (sym is)

walk_next : (p : ℕ → Bool) (k end : ℕ) → k < end → walk p k (end - k) ≡ (if p k then k ∷ walk p (k + 1) (end - (k + 1)) else walk p (k + 1) (end - (k + 1)))
walk_next p k end h =
    let more : end - k ≡ suc (end - (k + 1)) = omega arith in
    rw more refl

walk_over : (p : ℕ → Bool) (k end : ℕ) → end ≤ k → walk p k (end - k) ≡ []
walk_over p k end h =
    let none : end - k ≡ 0 = omega arith in
    rw none refl

-- an index that is not new is passed by
over_old : (p : ℕ → Bool) (set : List ℕ) (end j : ℕ) → has set j ≡ true → walk (new_in p set) j (end - j) ≡ walk (new_in p set) (j + 1) (end - (j + 1))
over_old p set end j old = elim (cases_lt j end) [
  | inl lt ↦
      let none : (p j && not (has set j)) ≡ false = grind (arith, old) in
      walk_next (new_in p set) j end lt ∙ ap (λ (b : Bool). if b then j ∷ walk (new_in p set) (j + 1) (end - (j + 1)) else walk (new_in p set) (j + 1) (end - (j + 1))) none
  | inr le ↦ walk_over (new_in p set) j end le ∙ sym (walk_over (new_in p set) (j + 1) end (omega arith))
]

-- what is left of a walk, after what was gained so far, makes all of it
abbrev pub rest_gained : (ℕ → Bool) → List ℕ → List ℕ → ℕ → ℕ → List ℕ
rest_gained p set so_far at end = with_indexes so_far (walk (new_in p set) at (end - at))

pub gain_start : (p : ℕ → Bool) (set none is : List ℕ) (a end : ℕ) → none ≡ [] → is ≡ walk p 0 end → IsFirstOpen set 0 a → rest_gained p set none a end ≡ gained set is
gain_start p set none is a end empty walked first =
    let all : end - 0 ≡ end = omega arith in
    ap (λ (xs : List ℕ). with_indexes xs (walk (new_in p set) a (end - a))) empty
    ∙ (ap (λ (xs : List ℕ). with_indexes [] xs) (sym (to_open (λ j. walk (new_in p set) j (end - j)) set 0 a first (λ j old. over_old p set end j old)))
    ∙ (ap (λ (n : ℕ). with_indexes [] (walk (new_in p set) 0 n)) all
    ∙ (ap (λ (xs : List ℕ). with_indexes [] xs) (walk_filter p set 0 end ∙ ap (λ (xs : List ℕ). filter (is_new set) xs) (sym walked)) ∙ each_gained set is)))

pub gain_step : (p : ℕ → Bool) (set so_far next : List ℕ) (k a end : ℕ) (total : List ℕ) → k < end → has set k ≡ false → next ≡ (if p k then with_index so_far k else so_far)
    → IsFirstOpen set (k + 1) a → rest_gained p set so_far k end ≡ total → rest_gained p set next a end ≡ total
gain_step p set so_far next k a end total lt new is first before =
    ap (λ (xs : List ℕ). with_indexes next xs) (sym (to_open (λ j. walk (new_in p set) j (end - j)) set (k + 1) a first (λ j old. over_old p set end j old)))
    ∙ (by (p k) refl ∙ before)
  where
    rest : List ℕ
    rest = walk (new_in p set) (k + 1) (end - (k + 1))

    by : (b : Bool) → p k ≡ b → with_indexes next rest ≡ with_indexes so_far (walk (new_in p set) k (end - k))
    by true is_updated =
        let here : (p k && not (has set k)) ≡ true = grind (arith, is_updated, new) in
        ap (λ (xs : List ℕ). with_indexes xs rest) (is ∙ ap (λ (b : Bool). if b then with_index so_far k else so_far) is_updated)
        ∙ ap (λ (xs : List ℕ). with_indexes so_far xs) (sym (walk_next (new_in p set) k end lt ∙ ap (λ (b : Bool). if b then k ∷ rest else rest) here))
    by false fails =
        let here : (p k && not (has set k)) ≡ false = grind (arith, fails) in
        ap (λ (xs : List ℕ). with_indexes xs rest) (is ∙ ap (λ (b : Bool). if b then with_index so_far k else so_far) fails)
        ∙ ap (λ (xs : List ℕ). with_indexes so_far xs) (sym (walk_next (new_in p set) k end lt ∙ ap (λ (b : Bool). if b then k ∷ rest else rest) here))

pub gain_end : (p : ℕ → Bool) (set so_far : List ℕ) (k end : ℕ) (total : List ℕ) → end ≤ k → rest_gained p set so_far k end ≡ total → so_far ≡ total
gain_end p set so_far k end total le before = ap (λ (xs : List ℕ). with_indexes so_far xs) (sym (walk_over (new_in p set) k end le)) ∙ before

-- ---- all up to an index, and what an update passes over

abbrev pub any : ℕ → Bool
any j = true

below_from : (k n : ℕ) → range_with_len k n ≡ walk any k n
below_from k zero = refl
below_from k (suc n) = ap (λ (xs : List ℕ). k ∷ xs) (below_from (k + 1) n)

pub below_walk : (n : ℕ) → below n ≡ walk any 0 n
below_walk n = below_from 0 n
