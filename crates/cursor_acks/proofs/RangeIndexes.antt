-- What a range_index tells of an index, and what the two ends of its range tell.
use Rattle.std.proofs.Common.{◌≡◌, ℕ, ◌+◌, ◌-◌, ◌<◌, ◌≤◌, ◌^◌, nat_lt, true, false, List, length, get_or, ap, sym, ◌∙◌, arith}
use Rattle.std.specs.Prelude.{nat_le}
use Rattle.std.proofs.lemmas.Bool.{ltb-true, ltb-false}
use Rattle.std.proofs.lemmas.Bool.Decides.{nat_tests}
use Rattle.std.proofs.lemmas.List.{get_or_default}
use Rattle.std.specs.List.Sorted.{IsNonDecreasingBy, IsPartitionPoint}
use Rattle.cursor_acks.specs.declared.range.IndexRange.{IndexRange}
use Rattle.cursor_acks.specs.Blocks.{no_range}
use Rattle.cursor_acks.specs.Ranges.{covers}
use Rattle.cursor_acks.specs.RangeIndexes.{AreKept, Begins, Ends, IsPlace}
use Rattle.cursor_acks.proofs.Covered.{covers_at, uncovered}

-- an index that its range_index does not hold is not covered
pub place_out : (rs : List IndexRange) (i at : ℕ) → AreKept rs → IsPlace rs i at → ((d : IndexRange) → at < length rs → i < (get_or rs at d).first) → covers rs i ≡ false
place_out rs i at h p out =
    uncovered rs i (λ k d n a b. grind (arith, p.before k d, out d, h.apart.each at d, h.apart.gaps at k d))

pub place_in : (rs : List IndexRange) (i at : ℕ) (d : IndexRange) → AreKept rs → IsPlace rs i at → at < length rs → (get_or rs at d).first ≤ i → covers rs i ≡ true
place_in rs i at d h p n le = covers_at rs at d i n le (p.after at d (omega arith) n)

begins_joined : (rs : List IndexRange) (i at : ℕ) (e : IndexRange) → AreKept rs → IsPlace rs i at → 0 < at → (get_or rs (at - 1) e).last + 1 ≡ i → Begins rs i at (at - 1) (get_or rs (at - 1) e).first
begins_joined rs i at e h p pos same =
    let le : at ≤ length rs = p.within in
    let own : (get_or rs (at - 1) e).first ≤ (get_or rs (at - 1) e).last = h.apart.each (at - 1) e (omega arith) in
    record {
      order = omega arith;
      reached = omega arith;
      apart = λ k d a b. grind (arith, h.apart.gaps k (at - 1) d b, get_or_default rs (at - 1) d e);
      joined = λ k d a b.
          let f : k ≡ at - 1 = omega arith in
          rw (f, get_or_default rs (at - 1) d e (omega arith)) (omega arith);
      held = λ j a b. covers_at rs (at - 1) e j (omega arith) a (omega arith);
      alone = λ no. absurd (omega arith);
    }

-- the ranges before a range_index end two or more before an index, where the last of them does
ends_before : (rs : List IndexRange) (i at : ℕ) (e : IndexRange) → AreKept rs → IsPlace rs i at → (0 < at → (get_or rs (at - 1) e).last + 1 ≡ i → ⊥) → (k : ℕ) (d : IndexRange) → k < at → (get_or rs k d).last + 1 < i
ends_before rs i at e h p other k d b =
    let le : at ≤ length rs = p.within in
    let low : (get_or rs k d).last < i = p.before k d (omega arith) b in
    let at_last : at - 1 ≡ k → (get_or rs k d).last + 1 < i = λ f.
    let o : (get_or rs k d).last + 1 ≡ i → ⊥ = rw (f, get_or_default rs k e d (omega arith)) at (other (omega arith)) in
    omega (arith, o) in
    let lower : k < at - 1 → (get_or rs k d).last + 1 < i = λ lt.
    omega (arith, h.apart.gaps k (at - 1) d lt (omega arith), h.apart.each (at - 1) d (omega arith), p.before (at - 1) d (omega arith) (omega arith)) in
    grind (arith, at_last, lower)

begins_here : (rs : List IndexRange) (i at : ℕ) (e : IndexRange) → AreKept rs → IsPlace rs i at → covers rs i ≡ false → (0 < at → (get_or rs (at - 1) e).last + 1 ≡ i → ⊥) → Begins rs i at at i
begins_here rs i at e h p out other =
    let le : at ≤ length rs = p.within in
    let low : (k : ℕ) (d : IndexRange) → k < at → (get_or rs k d).last + 1 < i = ends_before rs i at e h p other in
    record {
      order = omega arith;
      reached = omega arith;
      apart = λ k d a b. low k d b;
      joined = λ k d a b. absurd (omega arith);
      held = λ j a b. absurd (omega arith);
      alone = λ _ j f. uncovered rs j (λ k d n a b. grind (arith, low k d, p.after k d, covers_at rs k d i n, out));
    }

ends_joined : (rs : List IndexRange) (i at : ℕ) (e : IndexRange) → AreKept rs → IsPlace rs (i + 1) at → at < length rs → (get_or rs at e).first ≤ i + 1 → Ends rs i at (at + 1) (get_or rs at e).last
ends_joined rs i at e h p n le =
    let up : i + 1 ≤ (get_or rs at e).last = p.after at e (omega arith) n in
    record {
      order = omega arith;
      within = omega arith;
      reached = omega arith;
      apart = λ k d a b. grind (arith, h.apart.gaps at k d, get_or_default rs at d e);
      joined = λ k d a b.
          let f : k ≡ at = omega arith in
          rw (f, get_or_default rs at d e n) (omega arith);
      held = λ j a b. covers_at rs at e j n (omega arith) b;
      alone = λ no. absurd (omega arith);
      bounded = h.bounded at e n;
    }

begins_after : (rs : List IndexRange) (i at : ℕ) (e : IndexRange) → AreKept rs → IsPlace rs (i + 1) at → (at < length rs → i + 1 < (get_or rs at e).first) → (k : ℕ) (d : IndexRange) → at ≤ k → k < length rs → i + 1 < (get_or rs k d).first
begins_after rs i at e h p out k d a b =
    let at_first : at ≡ k → i + 1 < (get_or rs k d).first = λ f.
    let o : i + 1 < (get_or rs k d).first = rw (f, get_or_default rs k e d b) at (out (omega arith)) in
    o in
    let higher : at < k → i + 1 < (get_or rs k d).first = λ lt.
    omega (arith, h.apart.gaps at k d lt b, p.after at d (omega arith) (omega arith)) in
    grind (arith, at_first, higher)

ends_here : (rs : List IndexRange) (i at : ℕ) (e : IndexRange) → i + 1 < 2 ^ 64 → AreKept rs → IsPlace rs (i + 1) at → (at < length rs → i + 1 < (get_or rs at e).first) → Ends rs i at at i
ends_here rs i at e fits h p out =
    let le : at ≤ length rs = p.within in
    let high : (k : ℕ) (d : IndexRange) → at ≤ k → k < length rs → i + 1 < (get_or rs k d).first = begins_after rs i at e h p out in
    record {
      order = omega arith;
      within = le;
      reached = omega arith;
      apart = high;
      joined = λ k d a b. absurd (omega arith);
      held = λ j a b. absurd (omega arith);
      alone = λ _. place_out rs (i + 1) at h p (λ d n. high at d (omega arith) n);
      bounded = fits;
    }

-- what the test at a range_index answers
pub held : (rs : List IndexRange) (i at : ℕ) (e : IndexRange) → AreKept rs → IsPlace rs i at → at < length rs → nat_le (get_or rs at e).first i ≡ covers rs i
held rs i at e h p n =
    let out : i < (get_or rs at e).first → covers rs i ≡ false = λ lt.
    place_out rs i at h p (λ d _. omega (arith, lt, ap (λ (r : IndexRange). r.first) (get_or_default rs at d e n))) in
    grind (arith, nat_tests, out, place_in rs i at e h p n)

-- where a search by the ends of the ranges stops
pub rises : (rs : List IndexRange) → AreKept rs → IsNonDecreasingBy (λ (r : IndexRange). r.last) rs
rises rs h i j d le n = grind (arith, h.apart.gaps i j d, h.apart.each j d n)

pub place_found : (rs : List IndexRange) (i at : ℕ) → AreKept rs → at ≤ length rs → IsPartitionPoint (λ (r : IndexRange). nat_lt r.last i ≡ true) (λ (r : IndexRange). nat_lt r.last i ≡ false) rs at → IsPlace rs i at
place_found rs i at h le p = record {
  within = le;
  before = λ k d a b. ltb-true _ _ (p.0 k d a b);
  after = λ k d a b. ltb-false _ _ (p.1 k d a b);
}

-- the two ranges at a range_index tell whether it is that of an index
pub place_at : (rs : List IndexRange) (i at : ℕ) → AreKept rs → at ≤ length rs → (0 < at → (get_or rs (at - 1) no_range).last < i) → (at < length rs → i ≤ (get_or rs at no_range).last) → IsPlace rs i at
place_at rs i at h le low high = record {
  within = le;
  before = λ k d a b.
      let n : at - 1 < length rs = omega (arith, b, le) in
      omega (arith, rises rs h k (at - 1) d (omega (arith, b)) n, ap (λ (r : IndexRange). r.last) (get_or_default rs (at - 1) d no_range n), low (omega (arith, b)));
  after = λ k d a b.
      let n : at < length rs = omega (arith, a, b) in
      omega (arith, rises rs h at k d a b, ap (λ (r : IndexRange). r.last) (get_or_default rs at d no_range n), high n);
}

-- ---- the same, from the ranges that were read

pub begins_with : (rs : List IndexRange) (i at low : ℕ) (r : IndexRange) → AreKept rs → IsPlace rs i at → low + 1 ≡ at → r ≡ get_or rs low r → r.last + 1 ≡ i → Begins rs i at low r.first
begins_with rs i at low r h p next is joined =
    let there : at - 1 ≡ low = omega (arith, next) in
    let same : get_or rs (at - 1) r ≡ r = ap (λ n. get_or rs n r) there ∙ sym is in
    rw (same, there) at (begins_joined rs i at r h p (omega (arith, next)) (omega (arith, ap (λ (s : IndexRange). s.last) same, joined)))

pub begins_apart : (rs : List IndexRange) (i at low : ℕ) (r : IndexRange) → AreKept rs → IsPlace rs i at → covers rs i ≡ false → low + 1 ≡ at → r ≡ get_or rs low r → (r.last + 1 ≡ i → ⊥) → Begins rs i at at i
begins_apart rs i at low r h p out next is other =
    let there : at - 1 ≡ low = omega (arith, next) in
    let same : get_or rs (at - 1) r ≡ r = ap (λ n. get_or rs n r) there ∙ sym is in
    begins_here rs i at r h p out (λ pos e. other (omega (arith, ap (λ (s : IndexRange). s.last) same, e)))

pub begins_first : (rs : List IndexRange) (i at : ℕ) → AreKept rs → IsPlace rs i at → covers rs i ≡ false → at ≡ 0 → Begins rs i at at i
begins_first rs i at h p out start = begins_here rs i at no_range h p out (λ pos. absurd (omega (arith, pos, start)))

pub ends_with : (rs : List IndexRange) (i at : ℕ) (r : IndexRange) → AreKept rs → IsPlace rs (i + 1) at → at < length rs → r ≡ get_or rs at r → r.first ≤ i + 1 → Ends rs i at (at + 1) r.last
ends_with rs i at r h p n is le = rw (← is) at (ends_joined rs i at r h p n (omega (arith, ap (λ (s : IndexRange). s.first) is, le)))

pub ends_apart : (rs : List IndexRange) (i at : ℕ) (r : IndexRange) → i + 1 < 2 ^ 64 → AreKept rs → IsPlace rs (i + 1) at → r ≡ get_or rs at r → i + 1 < r.first → Ends rs i at at i
ends_apart rs i at r fits h p is lt = ends_here rs i at r fits h p (λ n. omega (arith, ap (λ (s : IndexRange). s.first) is, lt))

pub ends_last : (rs : List IndexRange) (i at : ℕ) → i + 1 < 2 ^ 64 → AreKept rs → IsPlace rs (i + 1) at → length rs ≤ at → Ends rs i at at i
ends_last rs i at fits h p past = ends_here rs i at no_range fits h p (λ n. absurd (omega (arith, n, past)))
