-- An ascending set of indexes below a bound is that of ranges that ascend with gaps between them.
use Rattle.std.proofs.Common.{◌≡◌, ℕ, zero, suc, ◌+◌, ◌-◌, ◌<◌, ◌≤◌, ◌==◌, Bool, true, false, List, [], ◌∷◌, ◌++◌, length, get_or, refl, sym, ap, ◌∙◌, arith}
use Rattle.std.specs.Prelude.{if◌then◌else◌}
use Rattle.std.specs.List.{range_with_len}
use Rattle.std.proofs.lemmas.Bool.{eqb-false, eqb-true}
use Rattle.std.proofs.lemmas.Bool.Decides.{nat_tests}
use Rattle.cursor_acks.specs.declared.range.IndexRange.{IndexRange}
use Rattle.cursor_acks.specs.Ranges.{AreApart, indexes_of}
use Rattle.cursor_acks.proofs.Sets.{Rising}
use Rattle.state_items.specs.Fitting.{IsCursor}
use Rattle.state_items.specs.Runs.{with_below}
use Rattle.world_laws.specs.Indexes.{AreBelow}

abbrev made : ℕ → ℕ → IndexRange
made a b = record { first = a; last = b }

-- ranges that stand for a set, none below a bound and none above another one
record AreRanges (low n : ℕ) (set : List ℕ) (rs : List IndexRange) : Type 0 where
  apart : AreApart rs
  above : (k : ℕ) (d : IndexRange) → k < length rs → low ≤ (get_or rs k d).first
  below : (k : ℕ) (d : IndexRange) → k < length rs → (get_or rs k d).last < n
  is : set ≡ indexes_of rs

no_ranges : (low n : ℕ) → AreRanges low n [] []
no_ranges low n = record {
  apart = record { each = λ k d lt. absurd (omega (arith, lt)); gaps = λ i j d a lt. absurd (omega (arith, lt)) };
  above = λ k d lt. absurd (omega (arith, lt));
  below = λ k d lt. absurd (omega (arith, lt));
  is = refl;
}

one_index : (x : ℕ) (xs : List ℕ) → range_with_len x (x + 1 - x) ++ xs ≡ x ∷ xs
one_index x xs =
    let one : x + 1 - x ≡ suc zero = omega arith in
    ap (λ (n : ℕ). range_with_len x n ++ xs) one

-- an index by itself
alone : (x n : ℕ) (xs : List ℕ) (rs : List IndexRange) → x < n → AreRanges (x + 1) n xs rs → ((k : ℕ) (d : IndexRange) → k < length rs → x + 1 < (get_or rs k d).first) → AreRanges x n (x ∷ xs) (made x x ∷ rs)
alone x n xs rs lt h far = record { apart = record { each = each; gaps = gaps }; above = above; below = below; is = ap (λ (ys : List ℕ). x ∷ ys) h.is ∙ sym (one_index x (indexes_of rs)) }
  where
    each : (k : ℕ) (d : IndexRange) → k < length (made x x ∷ rs) → (get_or (made x x ∷ rs) k d).first ≤ (get_or (made x x ∷ rs) k d).last
    each zero d k = omega arith
    each (suc i) d k = h.apart.each i d (omega (arith, k))

    gaps : (i j : ℕ) (d : IndexRange) → i < j → j < length (made x x ∷ rs) → (get_or (made x x ∷ rs) i d).last + 1 < (get_or (made x x ∷ rs) j d).first
    gaps i zero d ij k = absurd (omega (arith, ij))
    gaps zero (suc j) d ij k = far j d (omega (arith, k))
    gaps (suc i) (suc j) d ij k = h.apart.gaps i j d (omega (arith, ij)) (omega (arith, k))

    above : (k : ℕ) (d : IndexRange) → k < length (made x x ∷ rs) → x ≤ (get_or (made x x ∷ rs) k d).first
    above zero d k = omega arith
    above (suc i) d k = let a = h.above i d (omega (arith, k)) in omega (arith, a)

    below : (k : ℕ) (d : IndexRange) → k < length (made x x ∷ rs) → (get_or (made x x ∷ rs) k d).last < n
    below zero d k = lt
    below (suc i) d k = h.below i d (omega (arith, k))

-- an index that a range begins after
joined_indexes : (x last : ℕ) (ys : List ℕ) → x + 1 ≤ last → range_with_len x (last + 1 - x) ++ ys ≡ x ∷ (range_with_len (x + 1) (last + 1 - (x + 1)) ++ ys)
joined_indexes x last ys le =
    let more : last + 1 - x ≡ suc (last + 1 - (x + 1)) = omega (arith, le) in
    ap (λ (n : ℕ). range_with_len x n ++ ys) more

joined : (x n : ℕ) (xs : List ℕ) (r : IndexRange) (rs : List IndexRange) → r.first ≡ x + 1 → AreRanges (x + 1) n xs (r ∷ rs) → AreRanges x n (x ∷ xs) (made x r.last ∷ rs)
joined x n xs r rs near h = record { apart = record { each = each; gaps = gaps }; above = above; below = below; is = is }
  where
    own : r.first ≤ r.last
    own = h.apart.each zero r (omega arith)

    each : (k : ℕ) (d : IndexRange) → k < length (made x r.last ∷ rs) → (get_or (made x r.last ∷ rs) k d).first ≤ (get_or (made x r.last ∷ rs) k d).last
    each zero d k = omega (arith, own, near)
    each (suc i) d k = h.apart.each (suc i) d (omega (arith, k))

    gaps : (i j : ℕ) (d : IndexRange) → i < j → j < length (made x r.last ∷ rs) → (get_or (made x r.last ∷ rs) i d).last + 1 < (get_or (made x r.last ∷ rs) j d).first
    gaps i zero d ij k = absurd (omega (arith, ij))
    gaps zero (suc j) d ij k = h.apart.gaps zero (suc j) d (omega arith) (omega (arith, k))
    gaps (suc i) (suc j) d ij k = h.apart.gaps (suc i) (suc j) d (omega (arith, ij)) (omega (arith, k))

    above : (k : ℕ) (d : IndexRange) → k < length (made x r.last ∷ rs) → x ≤ (get_or (made x r.last ∷ rs) k d).first
    above zero d k = omega arith
    above (suc i) d k = let a = h.above (suc i) d (omega (arith, k)) in omega (arith, a)

    below : (k : ℕ) (d : IndexRange) → k < length (made x r.last ∷ rs) → (get_or (made x r.last ∷ rs) k d).last < n
    below zero d k = h.below zero r (omega arith)
    below (suc i) d k = h.below (suc i) d (omega (arith, k))

    is : x ∷ xs ≡ range_with_len x (r.last + 1 - x) ++ indexes_of rs
    is =
        ap (λ (ys : List ℕ). x ∷ ys) (h.is ∙ ap (λ (a : ℕ). range_with_len a (r.last + 1 - a) ++ indexes_of rs) near)
        ∙ sym (joined_indexes x r.last (indexes_of rs) (omega (arith, own, near)))

-- all firsts rise
rises : (r : IndexRange) (rs : List IndexRange) (k : ℕ) (d : IndexRange) → AreApart (r ∷ rs) → k < length (r ∷ rs) → r.first ≤ (get_or (r ∷ rs) k d).first
rises r rs zero d h n = omega arith
rises r rs (suc k) d h n = omega (arith, h.gaps 0 (suc k) d (omega arith) n, h.each 0 d (omega arith))

with_one : (x n : ℕ) (xs : List ℕ) (rs : List IndexRange) → x < n → AreRanges (x + 1) n xs rs → AreRanges x n (x ∷ xs) (with_below x rs)
with_one x n xs [] lt h = alone x n xs [] lt h (λ k d k'. absurd (omega (arith, k')))
with_one x n xs (r ∷ rs) lt h = by (r.first == x + 1) refl
  where
    by : (t : Bool) → (r.first == x + 1) ≡ t → AreRanges x n (x ∷ xs) (if t then record { first = x; last = r.last } ∷ rs else record { first = x; last = x } ∷ r ∷ rs)
    by true is = joined x n xs r rs (eqb-true r.first (x + 1) is) h
    by false is =
        let other = eqb-false r.first (x + 1) is in
        alone x n xs (r ∷ rs) lt h (λ k d k'.
        let up = rises r rs k d h.apart k' in let low = h.above zero r (omega arith) in omega (arith, up, low, other))

abbrev ranges_of : List ℕ → List IndexRange
ranges_of [] = []
ranges_of (x ∷ xs) = with_below x (ranges_of xs)

lower : (low x n : ℕ) (set : List ℕ) (rs : List IndexRange) → low ≤ x → AreRanges x n set rs → AreRanges low n set rs
lower low x n set rs le h = record { apart = h.apart; above = λ k d lt. let a = h.above k d lt in omega (arith, a, le); below = h.below; is = h.is }

ranges_are : (low n : ℕ) (set : List ℕ) → Rising low set → AreBelow n set → AreRanges low n set (ranges_of set)
ranges_are low n [] up below = no_ranges low n
ranges_are low n (x ∷ xs) up below =
    let first : x < n = below x (grind (arith, nat_tests)) in
    lower low x n (x ∷ xs) (with_below x (ranges_of xs)) up.0
    (with_one x n xs (ranges_of xs) first (ranges_are (x + 1) n xs up.1 (λ i there. below i (grind (arith, there)))))

pub cursor_is : (n : ℕ) (set : List ℕ) → Rising 0 set → AreBelow n set → IsCursor n set
cursor_is n set up below =
    let h = ranges_are 0 n set up below in
    record { ranges = ranges_of set; inside = record { apart = h.apart; within = h.below }; is = h.is }
