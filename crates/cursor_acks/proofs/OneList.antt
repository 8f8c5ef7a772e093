-- A set has one list of ranges.
use Rattle.std.proofs.Common.{◌≡◌, ℕ, suc, ◌+◌, ◌<◌, ◌≤◌, ◌^◌, true, false, List, [], ◌∷◌, length, refl, ap, sym, ◌∙◌, arith}
use Rattle.std.proofs.lemmas.Bool.Decides.{nat_tests}
use Rattle.geo_base.specs.Cursor.{has}
use Rattle.cursor_acks.specs.declared.range.IndexRange.{IndexRange}
use Rattle.cursor_acks.specs.Ranges.{AreApart, AreRangesOf, IsToldByRanges, covers}
use Rattle.cursor_acks.proofs.Covered.{apart_tail, has_indexes, uncovered}

-- nothing below the first range is covered
covered_from : (r : IndexRange) (rs : List IndexRange) (i : ℕ) → AreApart (r ∷ rs) → covers (r ∷ rs) i ≡ true → r.first ≤ i
covered_from r rs i h e =
    let low : i < r.first → covers (r ∷ rs) i ≡ false =
    λ lt. uncovered (r ∷ rs) i (λ k d n a b. grind (arith, h.gaps 0 k d, h.each 0 d)) in
    grind (arith, low, e)

-- nor is what lies right after it, nor what it covers by the others
tail_uncovered : (r : IndexRange) (rs : List IndexRange) (i : ℕ) → AreApart (r ∷ rs) → i ≤ r.last + 1 → covers rs i ≡ false
tail_uncovered r rs i h le =
    uncovered rs i (λ k d n a b. omega (arith, h.gaps 0 (suc k) d (omega arith) (omega arith)))

first_covered : (r : IndexRange) (rs : List IndexRange) → AreApart (r ∷ rs) → covers (r ∷ rs) r.first ≡ true
first_covered r rs h =
    let le : r.first ≤ r.last = h.each 0 r (omega arith) in
    grind (arith, nat_tests, le)

first_same : (r s : IndexRange) (rs ss : List IndexRange) → AreApart (r ∷ rs) → AreApart (s ∷ ss) → ((i : ℕ) → covers (r ∷ rs) i ≡ covers (s ∷ ss) i) → s.first ≤ r.first
first_same r s rs ss h k e = covered_from s ss r.first k (sym (e r.first) ∙ first_covered r rs h)

last_same : (r s : IndexRange) (rs ss : List IndexRange) → AreApart (r ∷ rs) → AreApart (s ∷ ss) → r.first ≡ s.first → ((i : ℕ) → covers (r ∷ rs) i ≡ covers (s ∷ ss) i) → s.last ≤ r.last
last_same r s rs ss h k f e =
    let le : r.first ≤ r.last = h.each 0 r (omega arith) in
    let out : covers rs (r.last + 1) ≡ false = tail_uncovered r rs (r.last + 1) h (omega arith) in
    grind (arith, nat_tests, le, out, e (r.last + 1), f)

tail_same : (r : IndexRange) (rs ss : List IndexRange) (i : ℕ) → AreApart (r ∷ rs) → AreApart (r ∷ ss) → covers (r ∷ rs) i ≡ covers (r ∷ ss) i → covers rs i ≡ covers ss i
tail_same r rs ss i h k e = grind (arith, nat_tests, tail_uncovered r rs i h, tail_uncovered r ss i k, e)

abbrev made : ℕ → ℕ → IndexRange
made a b = record { first = a; last = b }

same_range : (r s : IndexRange) → r.first ≡ s.first → r.last ≡ s.last → r ≡ s
same_range r s e f = ap (λ (a : ℕ). made a r.last) e ∙ ap (λ (b : ℕ). made s.first b) f

pub same_ranges : (rs ss : List IndexRange) → AreApart rs → AreApart ss → ((i : ℕ) → covers rs i ≡ covers ss i) → rs ≡ ss
same_ranges [] [] h k e = refl
same_ranges [] (s ∷ ss) h k e = absurd (grind (arith, e s.first, first_covered s ss k))
same_ranges (r ∷ rs) [] h k e = absurd (grind (arith, e r.first, first_covered r rs h))
same_ranges (r ∷ rs) (s ∷ ss) h k e =
    let e' : (i : ℕ) → covers (s ∷ ss) i ≡ covers (r ∷ rs) i = λ i. sym (e i) in
    let f : r.first ≡ s.first = omega (arith, first_same r s rs ss h k e, first_same s r ss rs k h e') in
    let l : r.last ≡ s.last = omega (arith, last_same r s rs ss h k f e, last_same s r ss rs k h (sym f) e') in
    let same : s ≡ r = same_range s r (sym f) (sym l) in
    let k' : AreApart (r ∷ ss) = rw same at k in
    let e'' : (i : ℕ) → covers (r ∷ rs) i ≡ covers (r ∷ ss) i = λ i. rw same at (e i) in
    rw same (ap (λ (ts : List IndexRange). r ∷ ts) (same_ranges rs ss (apart_tail r rs h) (apart_tail r ss k') (λ i. tail_same r rs ss i h k' (e'' i))))

pub one_list : (set : List ℕ) (rs ss : List IndexRange) → AreRangesOf set rs → AreRangesOf set ss → rs ≡ ss
one_list set rs ss h k = same_ranges rs ss h.apart k.apart (λ i. h.same i ∙ sym (k.same i))

-- ranges of a set that ranges tell are those, and so no more than a list can count
pub told_few : (set : List ℕ) (rs : List IndexRange) → IsToldByRanges set → AreRangesOf set rs → length rs < 2 ^ 64
told_few set rs told are =
    let mine : AreRangesOf set told.ranges = record { apart = told.apart; same = λ i. sym (has_indexes told.ranges i) ∙ ap (λ (s : List ℕ). has s i) (sym told.is) } in
    omega (arith, ap length (one_list set rs told.ranges are mine), told.few)
