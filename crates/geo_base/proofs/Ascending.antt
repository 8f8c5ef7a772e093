-- Where a table ascends by a key, the place that a search finds tells what one more item, or one less, makes of it.
use Rattle.std.proofs.Common.{◌≡◌, ℕ, zero, suc, ◌+◌, ◌-◌, ◌<◌, ◌≤◌, ◌==◌, nat_lt, Bool, true, false, List, [], ◌∷◌, length, get_or, set, refl, ap, ◌∙◌, sym, arith}
use Rattle.std.specs.Prelude.{not, if◌then◌else◌}
use Rattle.std.specs.List.{filter, insert, remove}
use Rattle.std.specs.List.Sorted.{IsNonDecreasingBy, IsPartitionPoint}
use Rattle.std.proofs.lemmas.Bool.{ltb-true, ltb-false}
use Rattle.std.proofs.lemmas.Bool.Decides.{nat_tests}
use Rattle.std.proofs.lemmas.List.{get_or-set_same, get_or-set_other, length-set}
use Rattle.std.proofs.lemmas.List.Kept.{AllPairs-filter}
use Rattle.std.proofs.lemmas.List.Edits.{length-insert, get_or-insert_below, get_or-insert_at, get_or-insert_above}
use Rattle.geo_base.specs.Ascending.{IsAscending, IsGap, IsHere, IsPlace}

-- one more item in a table, in place of the one that has its key
abbrev pub with_item : {X : Type 0} → (X → ℕ) → List X → X → List X
with_item key [] x = x ∷ []
with_item key (y ∷ ys) x = if nat_lt (key x) (key y) then x ∷ y ∷ ys else if key y == key x then x ∷ ys else y ∷ with_item key ys x

-- the items of a place are where a search by key stops
pub rises : {X : Type 0} (key : X → ℕ) (xs : List X) → IsAscending key xs → IsNonDecreasingBy key xs
rises key xs asc i j d le n = grind (arith, asc i j d)

pub place_found : {X : Type 0} (key : X → ℕ) (xs : List X) (k at : ℕ) → at ≤ length xs → IsPartitionPoint (λ x. nat_lt (key x) k ≡ true) (λ x. nat_lt (key x) k ≡ false) xs at → IsPlace X key xs k at
place_found key xs k at le p = record {
  within = le;
  low = λ i d a b. ltb-true _ _ (p.0 i d a b);
  high = λ i d a b. ltb-false _ _ (p.1 i d a b);
}

-- the place after the first item of a longer list
place_behind : {X : Type 0} (key : X → ℕ) (x : X) (xs : List X) (k at : ℕ) → IsPlace X key (x ∷ xs) k (suc at) → IsPlace X key xs k at
place_behind key x xs k at p = record {
  within = omega (arith, p.within);
  low = λ i d a b. p.low (suc i) d (omega arith) (omega arith);
  high = λ i d a b. p.high (suc i) d (omega arith) (omega arith);
}

ascends_behind : {X : Type 0} (key : X → ℕ) (x : X) (xs : List X) → IsAscending key (x ∷ xs) → IsAscending key xs
ascends_behind key x xs asc i j d lt n = asc (suc i) (suc j) d (omega arith) (omega arith)

-- an item whose key is not here goes to its place
pub item_missed : {X : Type 0} (key : X → ℕ) (xs : List X) (x : X) (at : ℕ) → IsPlace X key xs (key x) at → ((d : X) → at < length xs → key (get_or xs at d) ≡ key x → ⊥) → with_item key xs x ≡ insert xs at x
item_missed key [] x zero p other = refl
item_missed key [] x (suc at) p other = absurd (omega (arith, p.within))
item_missed key (y ∷ ys) x zero p other =
    let above : key x < key y = omega (arith, p.high 0 y (omega arith) (omega arith), other y (omega arith)) in
    let less : nat_lt (key x) (key y) ≡ true = grind (arith, nat_tests) in
    rw less refl
item_missed key (y ∷ ys) x (suc at) p other =
    let below : key y < key x = p.low 0 y (omega arith) (omega arith) in
    let less : nat_lt (key x) (key y) ≡ false = grind (arith, nat_tests) in
    let same : (key y == key x) ≡ false = grind (arith, nat_tests) in
    rw (less, same) (ap (λ zs. y ∷ zs) (item_missed key ys x at (place_behind key y ys (key x) at p) (λ d n. other d (omega arith))))

-- one whose key is here takes the place of the item that has it
pub item_found : {X : Type 0} (key : X → ℕ) (xs : List X) (x d : X) (at : ℕ) → IsPlace X key xs (key x) at → at < length xs → key (get_or xs at d) ≡ key x → with_item key xs x ≡ set xs at x
item_found key [] x d at p n e = absurd (omega arith)
item_found key (y ∷ ys) x d zero p n e =
    let less : nat_lt (key x) (key y) ≡ false = grind (arith, nat_tests) in
    let same : (key y == key x) ≡ true = grind (arith, nat_tests) in
    rw (less, same) refl
item_found key (y ∷ ys) x d (suc at) p n e =
    let below : key y < key x = p.low 0 y (omega arith) (omega arith) in
    let less : nat_lt (key x) (key y) ≡ false = grind (arith, nat_tests) in
    let same : (key y == key x) ≡ false = grind (arith, nat_tests) in
    rw (less, same) (ap (λ zs. y ∷ zs) (item_found key ys x d at (place_behind key y ys (key x) at p) (omega arith) e))

-- no item has a key, so none is taken out
pub none_gone : {X : Type 0} (key : X → ℕ) (k : ℕ) (xs : List X) → ((i : ℕ) (d : X) → i < length xs → key (get_or xs i d) ≡ k → ⊥) → filter (λ x. not (key x == k)) xs ≡ xs
none_gone key k [] other = refl
none_gone key k (x ∷ xs) other =
    let same : (key x == k) ≡ false = grind (arith, nat_tests, other 0 x (omega arith)) in
    rw same (ap (λ ys. x ∷ ys) (none_gone key k xs (λ i d n. other (suc i) d (omega arith))))

pub gone_found : {X : Type 0} (key : X → ℕ) (k : ℕ) (xs : List X) (d : X) (at : ℕ) → IsAscending key xs → at < length xs → key (get_or xs at d) ≡ k → filter (λ x. not (key x == k)) xs ≡ remove xs at
gone_found key k [] d at asc n e = absurd (omega arith)
gone_found key k (x ∷ xs) d zero asc n e =
    let same : (key x == k) ≡ true = grind (arith, nat_tests) in
    rw same (none_gone key k xs (λ i d' n'. omega (arith, e, asc 0 (suc i) d' (omega arith) (omega arith))))
gone_found key k (x ∷ xs) d (suc at) asc n e =
    let same : (key x == k) ≡ false = grind (arith, nat_tests, e, asc 0 (suc at) d (omega arith) (omega arith)) in
    rw same (ap (λ ys. x ∷ ys) (gone_found key k xs d at (ascends_behind key x xs asc) (omega arith) e))

-- the place of a key that no item has
pub gone_missed : {X : Type 0} (key : X → ℕ) (k : ℕ) (xs : List X) (at : ℕ) → IsAscending key xs → IsPlace X key xs k at → ((d : X) → at < length xs → key (get_or xs at d) ≡ k → ⊥) → filter (λ x. not (key x == k)) xs ≡ xs
gone_missed key k xs at asc p other = none_gone key k xs (λ i d n e. grind (arith, e, p.low i d, p.high at d, other d, asc at i d))

pub ascending_insert : {X : Type 0} (key : X → ℕ) (xs : List X) (x : X) (at : ℕ) → IsAscending key xs → IsGap X key xs (key x) at → IsAscending key (insert xs at x)
ascending_insert key xs x at asc g i j d lt n =
    let ys = insert xs at x in
    let within = g.place.within in
    let len = length-insert xs at x within in
    let below : (k : ℕ) → k < at → key (get_or ys k d) ≡ key (get_or xs k d) = λ k h. ap key (get_or-insert_below xs at x d k h within) in
    let here : (k : ℕ) → k ≡ at → key (get_or ys k d) ≡ key x = λ k h. rw h (ap key (get_or-insert_at xs at x d within)) in
    let above : (k : ℕ) → at < k → key (get_or ys k d) ≡ key (get_or xs (k - 1) d) = λ k h.
    let m : k - 1 + 1 ≡ k = omega arith in
    ap key (rw m at (get_or-insert_above xs at x d (k - 1) (omega arith) within)) in
    let high : (k : ℕ) → at ≤ k → k < length xs → key x < key (get_or xs k d) = λ k h m. grind (arith, g.place.high k d h m, g.other d, asc at k d) in
    grind (arith, below i, below j, here i, here j, above i, above j, g.place.low i d, high (j - 1), asc i j d, asc i (j - 1) d, asc (i - 1) (j - 1) d)

pub ascending_set : {X : Type 0} (key : X → ℕ) (xs : List X) (x : X) (at : ℕ) → IsAscending key xs → IsHere X key xs (key x) at → IsAscending key (set xs at x)
ascending_set key xs x at asc h i j d lt n =
    let len : length (set xs at x) ≡ length xs = length-set xs at x in
    let here : (k : ℕ) → k ≡ at → key (get_or (set xs at x) k d) ≡ key (get_or xs k d) = λ k e. rw e (ap key (get_or-set_same xs at x d h.within) ∙ sym (h.same d)) in
    let other : (k : ℕ) → (k ≡ at → ⊥) → key (get_or (set xs at x) k d) ≡ key (get_or xs k d) = λ k e. ap key (get_or-set_other xs at k x d e) in
    grind (arith, here i, here j, other i, other j, asc i j d)

pub gone_here : {X : Type 0} (key : X → ℕ) (k : ℕ) (xs : List X) (d : X) (at : ℕ) → IsAscending key xs → IsHere X key xs k at → filter (λ x. not (key x == k)) xs ≡ remove xs at
gone_here key k xs d at asc h = gone_found key k xs d at asc h.within (h.same d)

pub gone_gap : {X : Type 0} (key : X → ℕ) (k : ℕ) (xs : List X) (at : ℕ) → IsAscending key xs → IsGap X key xs k at → filter (λ x. not (key x == k)) xs ≡ xs
gone_gap key k xs at asc g = gone_missed key k xs at asc g.place g.other

-- what is left of it ascends too
pub ascending_filter : {X : Type 0} (key : X → ℕ) (p : X → Bool) (xs : List X) → IsAscending key xs → IsAscending key (filter p xs)
ascending_filter key p xs h = AllPairs-filter (λ x y. key x < key y) p xs h
