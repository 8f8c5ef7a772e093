-- One range in range_index of some is one more acknowledged index, or all up to one.
use Rattle.std.proofs.Common.{◌≡◌, ℕ, zero, suc, ◌+◌, true, false, List, inl, inr, refl, sym, ◌∙◌, arith}
use Rattle.std.proofs.lemmas.Bool.{cases_lt}
use Rattle.std.proofs.lemmas.Bool.Decides.{nat_tests}
use Rattle.geo_base.specs.Cursor.{below, has, with_index, with_indexes}
use Rattle.cursor_acks.specs.declared.range.IndexRange.{IndexRange}
use Rattle.cursor_acks.specs.Acks.{has_before}
use Rattle.cursor_acks.specs.Ranges.{covers, indexes_of}
use Rattle.cursor_acks.specs.RangeIndexes.{AreKept, Ends, IsPlace}
use Rattle.cursor_acks.proofs.Covered.{has_indexes, rising_indexes}
use Rattle.cursor_acks.proofs.Edited.{Fits, covers_edited, edited, edited_kept}
use Rattle.cursor_acks.proofs.Sets.{Rising, has_range, has_with_index, has_with_indexes, rising_with_index, rising_with_indexes, same_set}

rising : (rs : List IndexRange) → AreKept rs → Rising 0 (indexes_of rs)
rising rs h = rising_indexes 0 rs h.apart (λ n d. omega arith)

-- an index that is there changes nothing
pub added_again : (rs : List IndexRange) (i : ℕ) → AreKept rs → covers rs i ≡ true → indexes_of rs ≡ with_index (indexes_of rs) i
added_again rs i h e =
    same_set 0 (indexes_of rs) (with_index (indexes_of rs) i) (rising rs h) (rising_with_index 0 (indexes_of rs) i (rising rs h) (omega arith)) (λ j.
    let there : i ≡ j → covers rs j ≡ true = λ f. rw f at e in
    grind (arith, nat_tests, has_with_index (indexes_of rs) i j, has_indexes rs j, there))

pub acked_again : (rs : List IndexRange) → AreKept rs → (i : ℕ) → has (indexes_of rs) i ≡ true → with_index (indexes_of rs) i ≡ indexes_of rs
acked_again rs h i e = sym (added_again rs i h (sym (has_indexes rs i) ∙ e))

pub before_out : (set : List ℕ) (i : ℕ) → ((j : ℕ) → j + 1 ≡ i → has set j ≡ false) → has_before set i ≡ false
before_out set zero h = refl
before_out set (suc i) h = h i (omega arith)

pub all_fit : (rs : List IndexRange) (i at to : ℕ) (r : IndexRange) → r.first ≡ 0 → IsPlace rs (i + 1) at → Ends rs i at to r.last → Fits rs 0 to r
all_fit rs i at to r z p e = record {
  order = omega arith;
  within = e.within;
  own = omega arith;
  bounded = e.bounded;
  low = λ k d a b. absurd (omega arith);
  joined = λ k d lo hi. elim (cases_lt k at) [
    | inl under ↦ (omega arith, omega (arith, p.before k d (omega arith) under, e.reached))
    | inr over ↦ (omega arith, e.joined k d over hi)
  ];
  high = e.apart;
}

pub all_added : (rs : List IndexRange) (i at to : ℕ) (r : IndexRange) → r.first ≡ 0 → AreKept rs → Fits rs 0 to r → Ends rs i at to r.last → indexes_of (edited rs 0 to r) ≡ with_indexes (indexes_of rs) (below (i + 1))
all_added rs i at to r z h f e =
    same_set 0 (indexes_of (edited rs 0 to r)) (with_indexes (indexes_of rs) (below (i + 1))) (rising (edited rs 0 to r) (edited_kept rs 0 to r h f)) (rising_with_indexes (indexes_of rs) (below (i + 1)) (rising rs h)) (λ j.
    has_indexes (edited rs 0 to r) j
    ∙ covers_edited rs 0 to r j f
    ∙ grind (arith, nat_tests, has_with_indexes (indexes_of rs) (below (i + 1)) j, has_range 0 (i + 1) j, has_indexes rs j, e.held j, e.reached, z))

-- what all three ways to put them in come to
pub put_up_to : (rs ss : List IndexRange) (i at to : ℕ) (r : IndexRange) → r.first ≡ 0 → AreKept rs → IsPlace rs (i + 1) at → Ends rs i at to r.last → ss ≡ edited rs 0 to r
    → AreKept ss × (indexes_of ss ≡ with_indexes (indexes_of rs) (below (i + 1)))
put_up_to rs ss i at to r z h p e is =
    let f : Fits rs 0 to r = all_fit rs i at to r z p e in
    rw is (edited_kept rs 0 to r h f, all_added rs i at to r z h f e)
