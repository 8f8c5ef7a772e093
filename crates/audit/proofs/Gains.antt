-- What the ranges of an acknowledgement gain, range by range.
use Rattle.std.proofs.Common.{◌≡◌, ℕ, zero, suc, ◌+◌, ◌-◌, ◌<◌, ◌≤◌, ◌==◌, Bool, true, false, List, [], ◌∷◌, ◌++◌, length, get_or, take, drop, nat_lt, inl, inr, refl, sym, ap, subst, ◌∙◌, arith}
use Rattle.std.specs.Prelude.{not, ◌&&◌}
use Rattle.std.specs.List.{list_all, range_with_len}
use Rattle.std.proofs.lemmas.Bool.{and_parts, cases_lt, eqb-true, false≢true, ltb-true, or_cases}
use Rattle.std.proofs.lemmas.Bool.Decides.{nat_tests}
use Rattle.std.proofs.lemmas.List.{append-nil, append_assoc, drop_more, get_or-take, get_or_default, length-take-le, take_more}
use Rattle.std.proofs.lemmas.List.Folds.{list_all-append}
use Rattle.geo_base.specs.Cursor.{has, with_index, with_indexes}
use Rattle.cursor_acks.specs.declared.range.IndexRange.{IndexRange}
use Rattle.cursor_acks.specs.Acks.{are_free, from_to}
use Rattle.cursor_acks.specs.Ranges.{AreApart, covers, indexes_of}
use Rattle.cursor_acks.proofs.AddedRange.{all_free}
use Rattle.cursor_acks.proofs.Covered.{covers_at, has_indexes, uncovered}
use Rattle.cursor_acks.proofs.Sets.{has_with_indexes}
use Rattle.audit.specs.Sub.{may_gain}

-- ---- one range

within_len : (set : List ℕ) (len a n : ℕ) → a + n ≤ len
    → list_all (λ i. nat_lt i len && not (has set i)) (range_with_len a n) ≡ list_all (λ i. not (has set i)) (range_with_len a n)
within_len set len a zero le = refl
within_len set len a (suc n) le = grind (arith, nat_tests, le, within_len set len (a + 1) n (omega (arith, le)))

past_len : (set : List ℕ) (len a n k : ℕ) → a ≤ k → k < a + n → len ≤ k → list_all (λ i. nat_lt i len && not (has set i)) (range_with_len a n) ≡ false
past_len set len a zero k low high past = absurd (omega (arith, low, high))
past_len set len a (suc n) k low high past =
    elim (cases_lt a k) [
      | inl lt ↦ grind (arith, past_len set len (a + 1) n k (omega (arith, lt)) (omega (arith, high)) past)
      | inr le ↦ let out : nat_lt a len ≡ false = grind (arith, nat_tests, le, past) in rw out refl
    ]

range_gains : (set : List ℕ) (len first last : ℕ) → first ≤ last
    → list_all (λ i. nat_lt i len && not (has set i)) (from_to first last) ≡ (nat_lt last len && are_free set first last)
range_gains set len first last le =
    elim (cases_lt last len) [
      | inl lt ↦
          let is : nat_lt last len ≡ true = grind (arith, nat_tests, lt) in
          rw is (within_len set len first (last + 1 - first) (omega (arith, lt, le)))
      | inr past ↦
          let out : nat_lt last len ≡ false = grind (arith, nat_tests, past) in
          rw out (past_len set len first (last + 1 - first) last le (omega (arith, le)) past)
    ]

-- ---- the ranges from one on

step_gains : (set : List ℕ) (len : ℕ) (ranges : List IndexRange) (i : ℕ) (r : IndexRange) → AreApart ranges → i < length ranges → r ≡ get_or ranges i r
    → may_gain set len (drop i ranges) ≡ ((nat_lt r.last len && are_free set r.first r.last) && may_gain set len (drop (i + 1) ranges))
step_gains set len ranges i r apart lt is =
    let cut : drop i ranges ≡ r ∷ drop (i + 1) ranges = drop_more ranges i r lt ∙ ap (λ (q : IndexRange). q ∷ drop (i + 1) ranges) (sym is) in
    let own : r.first ≤ r.last = rw (← is) at (apart.each i r lt) in
    ap (may_gain set len) cut
    ∙ (list_all-append (λ j. nat_lt j len && not (has set j)) (from_to r.first r.last) (indexes_of (drop (i + 1) ranges))
    ∙ ap (λ (b : Bool). b && may_gain set len (drop (i + 1) ranges)) (range_gains set len r.first r.last own))

pub range_goes_on : (set : List ℕ) (len : ℕ) (ranges : List IndexRange) (i : ℕ) (r : IndexRange) → AreApart ranges → i < length ranges → r ≡ get_or ranges i r
    → r.last < len → are_free set r.first r.last ≡ true → may_gain set len (drop i ranges) ≡ may_gain set len (drop (i + 1) ranges)
range_goes_on set len ranges i r apart lt is small free =
    let in_it : nat_lt r.last len ≡ true = grind (arith, nat_tests, small) in
    step_gains set len ranges i r apart lt is ∙ rw (in_it, free) refl

pub range_past : (set : List ℕ) (len : ℕ) (ranges : List IndexRange) (i : ℕ) (r : IndexRange) → AreApart ranges → i < length ranges → r ≡ get_or ranges i r
    → len ≤ r.last → may_gain set len (drop i ranges) ≡ false
range_past set len ranges i r apart lt is past =
    let out : nat_lt r.last len ≡ false = grind (arith, nat_tests, past) in
    step_gains set len ranges i r apart lt is ∙ rw out refl

pub range_taken : (set : List ℕ) (len : ℕ) (ranges : List IndexRange) (i : ℕ) (r : IndexRange) → AreApart ranges → i < length ranges → r ≡ get_or ranges i r
    → are_free set r.first r.last ≡ false → may_gain set len (drop i ranges) ≡ false
range_taken set len ranges i r apart lt is taken =
    step_gains set len ranges i r apart lt is ∙ grind (arith, taken)

-- ---- what is gained

pub with_both : (set is js : List ℕ) → with_indexes set (is ++ js) ≡ with_indexes (with_indexes set is) js
with_both set [] js = refl
with_both set (i ∷ is) js = with_both (with_index set i) is js

indexes_both : (rs ss : List IndexRange) → indexes_of (rs ++ ss) ≡ indexes_of rs ++ indexes_of ss
indexes_both [] ss = refl
indexes_both (r ∷ rs) ss =
    ap (λ (is : List ℕ). from_to r.first r.last ++ is) (indexes_both rs ss) ∙ sym (append_assoc (from_to r.first r.last) (indexes_of rs) (indexes_of ss))

all_has : (p : ℕ → Bool) (is : List ℕ) (i : ℕ) → list_all p is ≡ true → has is i ≡ true → p i ≡ true
all_has p [] i h inside = absurd (false≢true inside)
all_has p (k ∷ is) i h inside =
    elim (or_cases (k == i) (has is i) inside) [
      | inl e ↦ subst (λ (j : ℕ). p j ≡ true) (eqb-true k i e) (and_parts (p k) (list_all p is) h).0
      | inr l ↦ all_has p is i (and_parts (p k) (list_all p is) h).1 l
    ]

-- each index of a range is stored and free
gains_at : (set : List ℕ) (len : ℕ) (ranges : List IndexRange) (k : ℕ) (r : IndexRange) (i : ℕ) → may_gain set len ranges ≡ true → k < length ranges → r ≡ get_or ranges k r
    → r.first ≤ i → i ≤ r.last → (nat_lt i len && not (has set i)) ≡ true
gains_at set len ranges k r i h lt is low high =
    all_has (λ j. nat_lt j len && not (has set j)) (indexes_of ranges) i h
    (has_indexes ranges i ∙ covers_at ranges k r i lt (rw is at low) (rw is at high))

pub last_stored : (set : List ℕ) (len : ℕ) (ranges : List IndexRange) (k : ℕ) (r : IndexRange) → may_gain set len ranges ≡ true → AreApart ranges → k < length ranges → r ≡ get_or ranges k r
    → r.last < len
last_stored set len ranges k r h apart lt is =
    let own : r.first ≤ r.last = rw (← is) at (apart.each k r lt) in
    ltb-true r.last len (and_parts (nat_lt r.last len) (not (has set r.last)) (gains_at set len ranges k r r.last h lt is own (omega arith))).0

pub still_free : (set : List ℕ) (len : ℕ) (ranges : List IndexRange) (k : ℕ) (r : IndexRange) → may_gain set len ranges ≡ true → AreApart ranges → k < length ranges → r ≡ get_or ranges k r
    → are_free (with_indexes set (indexes_of (take k ranges))) r.first r.last ≡ true
still_free set len ranges k r h apart lt is =
    let own : r.first ≤ r.last = rw (← is) at (apart.each k r lt) in
    all_free (with_indexes set (indexes_of (take k ranges))) r.first (r.last + 1 - r.first) (λ i low high.
    let fresh : not (has set i) ≡ true = (and_parts (nat_lt i len) (not (has set i)) (gains_at set len ranges k r i h lt is low (omega (arith, high, own)))).1 in
    let few : length (take k ranges) ≡ k = length-take-le k ranges (omega (arith, lt)) in
    let before : covers (take k ranges) i ≡ false =
    uncovered (take k ranges) i (λ j d n a b.
    let under : j < k = omega (arith, n, few) in
    let gap = apart.gaps j k d under lt in
    let same = get_or-take k ranges j d under in
    grind (arith, a, b, gap, same, low, is, get_or_default ranges k r d lt)) in
    has_with_indexes set (indexes_of (take k ranges)) i ∙ grind (arith, has_indexes (take k ranges) i, before, fresh))

pub one_more_gained : (set : List ℕ) (ranges : List IndexRange) (k : ℕ) (r : IndexRange) → k < length ranges → r ≡ get_or ranges k r
    → with_indexes (with_indexes set (indexes_of (take k ranges))) (from_to r.first r.last) ≡ with_indexes set (indexes_of (take (k + 1) ranges))
one_more_gained set ranges k r lt is =
    let more : take (k + 1) ranges ≡ take k ranges ++ r ∷ [] = take_more ranges k r lt ∙ ap (λ (q : IndexRange). take k ranges ++ q ∷ []) (sym is) in
    sym (ap (λ (rs : List IndexRange). with_indexes set (indexes_of rs)) more
    ∙ (ap (with_indexes set) (indexes_both (take k ranges) (r ∷ []) ∙ ap (λ (is : List ℕ). indexes_of (take k ranges) ++ is) (append-nil (from_to r.first r.last)))
    ∙ with_both set (indexes_of (take k ranges)) (from_to r.first r.last)))
