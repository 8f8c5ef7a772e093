-- Indexes and ranges after others.
use Rattle.std.proofs.Common.{◌≡◌, ℕ, zero, suc, ◌+◌, ◌-◌, ◌<◌, ◌≤◌, ◌==◌, nat_lt, true, false, List, [], ◌∷◌, ◌++◌, length, get_or, take, inl, inr, refl, sym, ap, ◌∙◌, append_assoc, arith}
use Rattle.std.specs.List.{range_with_len}
use Rattle.std.proofs.lemmas.Bool.{cases_lt, true≢false}
use Rattle.std.proofs.lemmas.Bool.Decides.{nat_tests}
use Rattle.std.proofs.lemmas.List.{append-nil, take_all, take_more, get_or-take, length-take-le, get_or_default}
use Rattle.std.proofs.lemmas.List.Elements.{All-push}
use Rattle.std.proofs.lemmas.List.Quantifiers.{all_pairs_push}
use Rattle.geo_base.specs.Cursor.{has, with_index}
use Rattle.cursor_acks.specs.declared.range.IndexRange.{IndexRange}
use Rattle.cursor_acks.specs.Acks.{AreBelow}
use Rattle.cursor_acks.specs.Ranges.{covers, indexes_of}
use Rattle.cursor_acks.proofs.Covered.{has_indexes, uncovered}
use Rattle.cursor_acks.proofs.Sets.{has_append}
use Rattle.state_items.specs.Ranges.{AreIn, IsNext, is_behind, no_range}
use Rattle.geo_base.proofs.Lists.{range_push}

-- ---- indexes after a set

tail_below : (x : ℕ) (xs : List ℕ) (i : ℕ) → AreBelow i (x ∷ xs) → AreBelow i xs
tail_below x xs i h j e = h j (grind (arith, e))

pub behind_all : (set : List ℕ) (i : ℕ) → AreBelow i set → with_index set i ≡ set ++ i ∷ []
behind_all [] i h = refl
behind_all (x ∷ xs) i h =
    let lt : x < i = h x (grind (arith, nat_tests)) in
    let past : nat_lt i x ≡ false = grind (arith, nat_tests, lt) in
    let other : (x == i) ≡ false = grind (arith, nat_tests, lt) in
    rw (past, other) (ap (λ (ys : List ℕ). x ∷ ys) (behind_all xs i (tail_below x xs i h)))

pub none_more : (old : List ℕ) (first : ℕ) → old ≡ old ++ range_with_len first (first - first)
none_more old first =
    let z : first - first ≡ 0 = omega arith in
    rw z (sym (append-nil old))

pub one_more : (old set new : List ℕ) (first i : ℕ) → first ≤ i → set ≡ old ++ range_with_len first (i - first) → new ≡ set ++ i ∷ [] → new ≡ old ++ range_with_len first (i + 1 - first)
one_more old set new first i le e f =
    let n : i + 1 - first ≡ suc (i - first) = omega arith in
    let last : first + (i - first) ≡ i = omega arith in
    let pushed : range_with_len first (i + 1 - first) ≡ range_with_len first (i - first) ++ i ∷ [] =
    ap (λ (k : ℕ). range_with_len first k) n ∙ range_push first (i - first) ∙ ap (λ (x : ℕ). range_with_len first (i - first) ++ x ∷ []) last in
    f ∙ ap (λ (s : List ℕ). s ++ i ∷ []) e ∙ append_assoc old (range_with_len first (i - first)) (i ∷ []) ∙ ap (λ (r : List ℕ). old ++ r) (sym pushed)

pub below_more : (set new : List ℕ) (i : ℕ) → AreBelow i set → new ≡ set ++ i ∷ [] → AreBelow (i + 1) new
below_more set new i h e j there =
    let in' : has (set ++ i ∷ []) j ≡ true = ap (λ (s : List ℕ). has s j) (sym e) ∙ there in
    let old : has set j ≡ true → j < i = h j in
    grind (arith, nat_tests, has_append set (i ∷ []) j, in', old)

-- ---- ranges after ranges

indexes_append : (rs ss : List IndexRange) → indexes_of (rs ++ ss) ≡ indexes_of rs ++ indexes_of ss
indexes_append [] ss = refl
indexes_append (r ∷ rs) ss =
    ap (λ (x : List ℕ). range_with_len r.first (r.last + 1 - r.first) ++ x) (indexes_append rs ss) ∙ sym (append_assoc (range_with_len r.first (r.last + 1 - r.first)) (indexes_of rs) (indexes_of ss))

pub taken_more : (rs : List IndexRange) (k : ℕ) (d : IndexRange) (old new : List ℕ) → k < length rs → old ≡ indexes_of (take k rs) → new ≡ old ++ range_with_len (get_or rs k d).first ((get_or rs k d).last + 1 - (get_or rs k d).first) → new ≡ indexes_of (take (k + 1) rs)
taken_more rs k d old new lt e f =
    let r : IndexRange = get_or rs k d in
    f ∙ ap (λ (s : List ℕ). s ++ range_with_len r.first (r.last + 1 - r.first)) e
    ∙ sym (ap (λ (ss : List IndexRange). indexes_of ss) (take_more rs k d lt) ∙ indexes_append (take k rs) (r ∷ []) ∙ ap (λ (s : List ℕ). indexes_of (take k rs) ++ s) (append-nil (range_with_len r.first (r.last + 1 - r.first))))

pub taken_all : (rs : List IndexRange) (k : ℕ) (set : List ℕ) → length rs ≤ k → set ≡ indexes_of (take k rs) → set ≡ indexes_of rs
taken_all rs k set le e = e ∙ ap (λ (ss : List IndexRange). indexes_of ss) (take_all k rs le)

pub behind_taken : (n : ℕ) (rs : List IndexRange) (k : ℕ) (d : IndexRange) (set : List ℕ) → AreIn n rs → k < length rs → set ≡ indexes_of (take k rs) → AreBelow (get_or rs k d).first set
behind_taken n rs k d set h lt e i there =
    let in' : has (indexes_of (take k rs)) i ≡ true = ap (λ (s : List ℕ). has s i) (sym e) ∙ there in
    let covered : covers (take k rs) i ≡ true = sym (has_indexes (take k rs) i) ∙ in' in
    let len : length (take k rs) ≡ k = length-take-le k rs (omega arith) in
    elim (cases_lt i (get_or rs k d).first) [
      | inl low ↦ low
      | inr high ↦ absurd (true≢false (sym covered ∙ uncovered (take k rs) i (λ j c n' a b.
          let jk : j < k = omega (arith, len) in
          let same : get_or (take k rs) j c ≡ get_or rs j c = get_or-take k rs j c jk in
          let b' : i ≤ (get_or rs j c).last = rw same at b in
          let far : (get_or rs j c).last + 1 < (get_or rs k c).first = h.apart.gaps j k c jk lt in
          let there' : get_or rs k c ≡ get_or rs k d = get_or_default rs k c d lt in
          let far' : (get_or rs j c).last + 1 < (get_or rs k d).first = rw there' at far in
          omega arith)))
    ]

pub none_in : (n : ℕ) → AreIn n []
none_in n = record {
  apart = record { each = λ k d lt. absurd (omega (arith, lt)); gaps = λ i j d a lt. absurd (omega (arith, lt)) };
  within = λ k d lt. absurd (omega (arith, lt));
}

-- the end of each range lies before what lies after the last one
all_before : (n : ℕ) (rs : List IndexRange) (first : ℕ) → AreIn n rs → is_behind rs first ≡ true → (k : ℕ) (d : IndexRange) → k < length rs → (get_or rs k d).last + 1 < first
all_before n rs first h b k d lt =
    let at : length rs - 1 < length rs = omega arith in
    let last : (get_or rs (length rs - 1) no_range).last + 1 < first = grind (arith, nat_tests, b, lt) in
    let default : get_or rs (length rs - 1) no_range ≡ get_or rs (length rs - 1) d = get_or_default rs (length rs - 1) no_range d at in
    let last' : (get_or rs (length rs - 1) d).last + 1 < first = rw default at last in
    elim (cases_lt k (length rs - 1)) [
      | inl low ↦ omega (arith, h.apart.gaps k (length rs - 1) d low at, h.apart.each (length rs - 1) d at)
      | inr high ↦
          let same : length rs - 1 ≡ k = omega arith in
          rw same at last'
    ]

pub one_in : (n : ℕ) (rs : List IndexRange) (r : IndexRange) → AreIn n rs → IsNext n rs r → AreIn n (rs ++ r ∷ [])
one_in n rs r h e = record {
  apart = record {
    each = All-push (λ (s : IndexRange). s.first ≤ s.last) rs r h.apart.each e.order;
    gaps = all_pairs_push (λ (s t : IndexRange). s.last + 1 < t.first) rs r h.apart.gaps (all_before n rs r.first h e.behind);
  };
  within = All-push (λ (s : IndexRange). s.last < n) rs r h.within e.within;
}

-- at least an index lies between the places of two ranges, so there are no more ranges than indexes
place_rises : (n : ℕ) (rs : List IndexRange) (k : ℕ) (d : IndexRange) → AreIn n rs → k < length rs → k ≤ (get_or rs k d).first
place_rises n rs zero d h lt = omega arith
place_rises n rs (suc k) d h lt =
    let before = place_rises n rs k d h (omega arith) in
    omega (arith, before, h.apart.each k d (omega arith), h.apart.gaps k (suc k) d (omega arith) lt)

pub few_ranges : (n : ℕ) (rs : List IndexRange) → AreIn n rs → length rs ≤ n
few_ranges n [] h = omega arith
few_ranges n (r ∷ rs) h =
    let k = length rs in
    let at : k < length (r ∷ rs) = omega arith in
    omega (arith, place_rises n (r ∷ rs) k r h at, h.apart.each k r at, h.within k r at)
