-- One range in range_index of some is a range more of acknowledged indexes, none of which was acknowledged.
use Rattle.std.proofs.Common.{◌≡◌, ℕ, zero, suc, ◌+◌, ◌-◌, ◌<◌, ◌≤◌, Bool, true, false, List, length, get_or, inl, inr, refl, ap, sym, ◌∙◌, arith}
use Rattle.std.specs.Prelude.{nat_lt, not, ◌||◌}
use Rattle.std.specs.List.{list_all, range_with_len}
use Rattle.std.proofs.lemmas.Bool.{cases_lt, false≢true}
use Rattle.std.proofs.lemmas.Bool.Decides.{nat_tests}
use Rattle.std.proofs.lemmas.List.{get_or_default}
use Rattle.geo_base.specs.Cursor.{has, with_index, with_indexes}
use Rattle.cursor_acks.specs.declared.range.IndexRange.{IndexRange}
use Rattle.cursor_acks.specs.Acks.{are_free, from_to, has_before, stand_alone, stands_alone}
use Rattle.cursor_acks.specs.Ranges.{covers, indexes_of}
use Rattle.cursor_acks.specs.RangeIndexes.{AreKept, Begins, Ends, IsPlace}
use Rattle.cursor_acks.proofs.Covered.{covers_at, has_indexes, rising_indexes, uncovered}
use Rattle.cursor_acks.proofs.Edited.{Fits, covers_edited, edited, edited_kept}
use Rattle.cursor_acks.proofs.Added.{before_out}
use Rattle.cursor_acks.proofs.RangeIndexes.{rises}
use Rattle.cursor_acks.proofs.Sets.{Rising, has_range, has_with_indexes, rising_with_indexes, same_set}

-- ---- none of some indexes is acknowledged

range_free : (set : List ℕ) (a n i : ℕ) → list_all (λ j. not (has set j)) (range_with_len a n) ≡ true → a ≤ i → i < a + n → has set i ≡ false
range_free set a zero i h low high = absurd (omega (arith, low, high))
range_free set a (suc n) i h low high = grind (arith, nat_tests, h, low, high, range_free set (a + 1) n i)

pub free_at : (set : List ℕ) (first last i : ℕ) → are_free set first last ≡ true → first ≤ i → i ≤ last → has set i ≡ false
free_at set first last i h low high = range_free set first (last + 1 - first) i h low (omega (arith, low, high))

pub all_free : (set : List ℕ) (a n : ℕ) → ((i : ℕ) → a ≤ i → i < a + n → has set i ≡ false) → list_all (λ j. not (has set j)) (range_with_len a n) ≡ true
all_free set a zero h = refl
all_free set a (suc n) h = grind (arith, h a (omega arith) (omega arith), all_free set (a + 1) n (λ i low high. h i (omega (arith, low)) (omega (arith, high))))

-- ---- what the test at a range_index answers

pub free_there : (rs : List IndexRange) (first last at : ℕ) → AreKept rs → IsPlace rs first at → ((d : IndexRange) → at < length rs → last < (get_or rs at d).first) → first ≤ last → are_free (indexes_of rs) first last ≡ true
free_there rs first last at h p out le =
    all_free (indexes_of rs) first (last + 1 - first) (λ i low high.
    has_indexes rs i
    ∙ uncovered rs i (λ k d n a b.
    let top : i ≤ last = omega (arith, high, le) in
    grind (arith, p.before k d, out d, h.apart.each at d, h.apart.gaps at k d, top)))

pub not_free : (rs : List IndexRange) (first last at : ℕ) (e : IndexRange) → AreKept rs → IsPlace rs first at → at < length rs → (get_or rs at e).first ≤ last → first ≤ last → are_free (indexes_of rs) first last ≡ false
not_free rs first last at e h p n low le = by (are_free (indexes_of rs) first last) refl
  where
    by : (b : Bool) → are_free (indexes_of rs) first last ≡ b → b ≡ false
    by false is = refl
    by true is =
        let up : first ≤ (get_or rs at e).last = p.after at e (omega arith) n in
        let own : (get_or rs at e).first ≤ (get_or rs at e).last = h.apart.each at e n in
        elim (cases_lt (get_or rs at e).first first) [
          | inl under ↦ absurd (false≢true (sym (free_at (indexes_of rs) first last first is (omega arith) le) ∙ (has_indexes rs first ∙ covers_at rs at e first n (omega (arith, under)) up)))
          | inr over ↦ absurd (false≢true (sym (free_at (indexes_of rs) first last (get_or rs at e).first is over low) ∙ (has_indexes rs (get_or rs at e).first ∙ covers_at rs at e (get_or rs at e).first n (omega arith) own)))
        ]

-- ---- the change

pub free_first : (rs : List IndexRange) (first last : ℕ) → are_free (indexes_of rs) first last ≡ true → first ≤ last → covers rs first ≡ false
free_first rs first last free le = sym (has_indexes rs first) ∙ free_at (indexes_of rs) first last first free (omega arith) le

pub range_fits : (rs : List IndexRange) (first last at at' from to : ℕ) (r : IndexRange) → AreKept rs → first ≤ last → are_free (indexes_of rs) first last ≡ true
    → IsPlace rs first at → IsPlace rs (last + 1) at' → Begins rs first at from r.first → Ends rs last at' to r.last → Fits rs from to r
range_fits rs first last at at' from to r h le free p q b e =
    let range_index : at ≤ at' = elim (cases_lt at' at) [
      | inl lt ↦
          let d : IndexRange = r in
          let n : at' < length rs = omega (arith, lt, p.within) in
          absurd (omega (arith, p.before at' d (omega arith) lt, q.after at' d (omega arith) n, le))
      | inr over ↦ over
    ] in
    let out : covers rs first ≡ false = free_first rs first last free le in
    record {
      order = omega (arith, b.order, range_index, e.order);
      within = e.within;
      own = omega (arith, b.reached, le, e.reached);
      bounded = e.bounded;
      low = b.apart;
      joined = λ k d lo hi. elim (cases_lt k at) [
        | inl under ↦ (b.joined k d lo under, omega (arith, p.before k d (omega arith) under, e.reached, le))
        | inr over ↦
            let n : k < length rs = omega (arith, hi, e.within) in (
              grind (arith, b.reached, p.after k d over, covers_at rs k d first n, n, out),
              elim (cases_lt k at') [
                | inl before ↦ omega (arith, q.before k d (omega arith) before, e.reached)
                | inr after ↦ e.joined k d after hi
              ],
            )
      ];
      high = e.apart;
    }

rising : (rs : List IndexRange) → AreKept rs → Rising 0 (indexes_of rs)
rising rs h = rising_indexes 0 rs h.apart (λ n d. omega arith)

pub range_added : (rs : List IndexRange) (first last at at' from to : ℕ) (r : IndexRange) → AreKept rs → first ≤ last → Fits rs from to r → Begins rs first at from r.first → Ends rs last at' to r.last
    → indexes_of (edited rs from to r) ≡ with_indexes (indexes_of rs) (from_to first last)
range_added rs first last at at' from to r h le f b e =
    same_set 0 (indexes_of (edited rs from to r)) (with_indexes (indexes_of rs) (from_to first last)) (rising (edited rs from to r) (edited_kept rs from to r h f))
    (rising_with_indexes (indexes_of rs) (from_to first last) (rising rs h)) (λ j.
    has_indexes (edited rs from to r) j
    ∙ covers_edited rs from to r j f
    ∙ grind (arith, nat_tests, has_with_indexes (indexes_of rs) (from_to first last) j, has_range first (last + 1 - first) j, has_indexes rs j, b.held j, e.held j, b.reached, e.reached, le))

-- the indexes that are not there stand at one range_index
pub place_free : (rs : List IndexRange) (first last at : ℕ) → AreKept rs → IsPlace rs first at → first ≤ last → are_free (indexes_of rs) first last ≡ true → IsPlace rs (last + 1) at
place_free rs first last at h p le free = record {
  within = p.within;
  before = λ k d a b. omega (arith, p.before k d a b, le);
  after = λ k d a b.
      let n : at < length rs = omega (arith, a, b) in
      elim (cases_lt last (get_or rs at d).first) [
        | inl lt ↦ omega (arith, lt, h.apart.each at d n, rises rs h at k d a b)
        | inr over ↦ absurd (false≢true (sym (not_free rs first last at d h p n over le) ∙ free))
      ];
}

-- what all four ways to put them in come to
pub put_in : (rs ss : List IndexRange) (first last at from to : ℕ) (r : IndexRange) → AreKept rs → first ≤ last → are_free (indexes_of rs) first last ≡ true → IsPlace rs first at
    → Begins rs first at from r.first → Ends rs last at to r.last → ss ≡ edited rs from to r → AreKept ss × (indexes_of ss ≡ with_indexes (indexes_of rs) (from_to first last))
put_in rs ss first last at from to r h le free p b e is =
    let f : Fits rs from to r = range_fits rs first last at at from to r h le free p (place_free rs first last at h p le free) b e in
    rw is (edited_kept rs from to r h f, range_added rs first last at at from to r h le f b e)

pub put_alone : (rs : List IndexRange) (first last at from to low high : ℕ) → Begins rs first at from low → Ends rs last at to high → from ≡ to → stand_alone (indexes_of rs) first last ≡ true
put_alone rs first last at from to low high b e same =
    let left : from ≡ at = omega (arith, b.order, e.order, same) in
    let right : at ≡ to = omega (arith, b.order, e.order, same) in
    let before : has_before (indexes_of rs) first ≡ false = before_out (indexes_of rs) first (λ j f. has_indexes rs j ∙ b.alone left j f) in
    let after : has (indexes_of rs) (last + 1) ≡ false = has_indexes rs (last + 1) ∙ e.alone right in
    rw (before, after) refl

-- one index is as many indexes from it to itself
pub one_free : (rs : List IndexRange) (i : ℕ) → covers rs i ≡ false → are_free (indexes_of rs) i i ≡ true
one_free rs i out =
    all_free (indexes_of rs) i (i + 1 - i) (λ j low high.
    let same : j ≡ i = omega (arith, low, high) in
    rw same (has_indexes rs i ∙ out))

pub one_index : (set : List ℕ) (i : ℕ) → with_indexes set (from_to i i) ≡ with_index set i
one_index set i =
    let one : i + 1 - i ≡ 1 = omega arith in
    ap (λ n. with_indexes set (range_with_len i n)) one

pub one_alone : (set : List ℕ) (i : ℕ) → has set i ≡ false → stands_alone set i ≡ stand_alone set i i
one_alone set i out = ap (λ (b : Bool). not (has_before set i || (b || has set (i + 1)))) out

-- ---- what the test for a range answers

pub free_before : (rs : List IndexRange) (first last at : ℕ) (e : IndexRange) → AreKept rs → IsPlace rs first at → first ≤ last → at < length rs
    → nat_lt last (get_or rs at e).first ≡ are_free (indexes_of rs) first last
free_before rs first last at e h p le n =
    elim (cases_lt last (get_or rs at e).first) [
      | inl lt ↦
          let free : are_free (indexes_of rs) first last ≡ true = free_there rs first last at h p (λ d _. rw (get_or_default rs at d e n) lt) le in
          grind (arith, nat_tests, lt, free)
      | inr over ↦ grind (arith, nat_tests, over, not_free rs first last at e h p n over le)
    ]
