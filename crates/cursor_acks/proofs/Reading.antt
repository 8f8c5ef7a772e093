-- What the mark-delete and the next open index are, from the ranges.
use Rattle.std.proofs.Common.{◌≡◌, ◌≢◌, ℕ, zero, suc, ◌+◌, ◌-◌, ◌<◌, ◌≤◌, ◌==◌, nat_lt, true, false, List, [], ◌∷◌, ◌++◌, inl, inr, length, get_or, refl, ◌∙◌, arith}
use Rattle.std.specs.List.{range_with_len}
use Rattle.std.proofs.lemmas.Bool.{cases_lt}
use Rattle.std.proofs.lemmas.Bool.Decides.{nat_tests}
use Rattle.std.proofs.lemmas.List.{get_or_default}
use Rattle.geo_base.specs.Cursor.{has, mark, mark_from, next_open}
use Rattle.cursor_acks.specs.declared.range.IndexRange.{IndexRange}
use Rattle.cursor_acks.specs.Acks.{IsFirstOpen, if_below}
use Rattle.cursor_acks.specs.Ranges.{covers, indexes_of}
use Rattle.cursor_acks.specs.RangeIndexes.{AreKept, IsPlace}
use Rattle.cursor_acks.proofs.Covered.{apart_tail, covers_at, has_indexes, rising_indexes, uncovered}
use Rattle.cursor_acks.proofs.RangeIndexes.{place_out}
use Rattle.cursor_acks.proofs.Sets.{Rising}

mark_stops : (xs : List ℕ) (m : ℕ) → Rising (m + 1) xs → mark_from xs m ≡ m
mark_stops [] m h = refl
mark_stops (x ∷ xs) m h =
    let other : (x == m) ≡ false = grind (arith, nat_tests, h.0) in
    rw other refl

mark_passes : (m n : ℕ) (ys : List ℕ) → mark_from (range_with_len m n ++ ys) m ≡ mark_from ys (m + n)
mark_passes m zero ys =
    let same : m + 0 ≡ m = omega arith in
    rw same refl
mark_passes m (suc n) ys =
    let same : (m == m) ≡ true = grind (arith, nat_tests) in
    let more : m + suc n ≡ m + 1 + n = omega arith in
    rw (same, more) (mark_passes (m + 1) n ys)

pub mark_first : (rs : List IndexRange) (d : IndexRange) → AreKept rs → 0 < length rs → (get_or rs 0 d).first ≡ 0 → mark (indexes_of rs) ≡ (get_or rs 0 d).last + 1
mark_first [] d h n e = absurd (omega arith)
mark_first (r ∷ rs) d h n e =
    let own : r.first ≤ r.last = h.apart.each 0 d n in
    let high : Rising (r.last + 1 + 1) (indexes_of rs) = rising_indexes (r.last + 1 + 1) rs (apart_tail r rs h.apart) (λ m d'. omega (arith, h.apart.gaps 0 1 d')) in
    let size : r.last + 1 - 0 ≡ r.last + 1 = omega arith in
    let sum : 0 + (r.last + 1) ≡ r.last + 1 = omega arith in
    let passed : mark_from (range_with_len 0 (r.last + 1) ++ indexes_of rs) 0 ≡ mark_from (indexes_of rs) (r.last + 1) = rw sum at (mark_passes 0 (r.last + 1) (indexes_of rs)) in
    rw (e, size) (passed ∙ mark_stops (indexes_of rs) (r.last + 1) high)

pub mark_not : (rs : List IndexRange) → AreKept rs → ((d : IndexRange) → 0 < length rs → (get_or rs 0 d).first ≢ 0) → mark (indexes_of rs) ≡ 0
mark_not rs h out =
    mark_stops (indexes_of rs) 0 (rising_indexes 1 rs h.apart (λ n d. omega (arith, out d n)))

-- an index that is not acknowledged is the next open one itself
pub open_here : (rs : List IndexRange) (i : ℕ) → covers rs i ≡ false → IsFirstOpen (indexes_of rs) i i
open_here rs i out = record {
  reached = omega arith;
  outside = has_indexes rs i ∙ out;
  least = λ j a b. absurd (omega arith);
}

pub open_behind : (rs : List IndexRange) (i at : ℕ) (e : IndexRange) → AreKept rs → IsPlace rs i at → at < length rs → (get_or rs at e).first ≤ i → IsFirstOpen (indexes_of rs) i ((get_or rs at e).last + 1)
open_behind rs i at e h p n le =
    let up : i ≤ (get_or rs at e).last = p.after at e (omega arith) n in
    record {
      reached = omega arith;
      outside = has_indexes rs ((get_or rs at e).last + 1) ∙ uncovered rs ((get_or rs at e).last + 1) (λ k d m a b.
          grind (arith, p.before k d, h.apart.gaps at k d, get_or_default rs at d e n, up));
      least = λ j a b. has_indexes rs j ∙ covers_at rs at e j n (omega arith) (omega arith);
    }

open_is : (set : List ℕ) (from i more : ℕ) → IsFirstOpen set from i → next_open set from more ≡ if_below i (from + more)
open_is set from i zero h =
    let past : nat_lt i (from + 0) ≡ false = grind (arith, nat_tests, h.reached) in
    rw past refl
open_is set from i (suc more) h =
    elim (cases_lt from i) [
      | inl lt ↦
          let there : has set from ≡ true = h.least from (omega arith) lt in
          let same : from + suc more ≡ from + 1 + more = omega arith in
          rw (there, same) (open_is set (from + 1) i more (record {
            reached = omega arith;
            outside = h.outside;
            least = λ j a b. h.least j (omega arith) b;
          }))
      | inr le ↦
          let same : i ≡ from = omega (arith, h.reached) in
          let out : has set from ≡ false = rw same at h.outside in
          let below : nat_lt from (from + suc more) ≡ true = grind (arith, nat_tests) in
          rw (same, out, below) refl
    ]

-- the machine looks for it below an end
pub open_below : (set : List ℕ) (from i end : ℕ) → IsFirstOpen set from i → next_open set from (end - from) ≡ if_below i end
open_below set from i end h =
    elim (cases_lt end from) [
      | inl lt ↦
          let none : end - from ≡ 0 = omega arith in
          let past : nat_lt i end ≡ false = grind (arith, nat_tests, h.reached) in
          rw (none, past) refl
      | inr le ↦
          let same : from + (end - from) ≡ end = omega arith in
          rw same at (open_is set from i (end - from) h)
    ]

-- the first range tells where the mark-delete is
place_zero : (rs : List IndexRange) → IsPlace rs 0 0
place_zero rs = record {
  within = omega arith;
  before = λ k d a b. absurd (omega arith);
  after = λ k d a b. omega arith;
}

pub first_open : (rs : List IndexRange) (e : IndexRange) → AreKept rs → 0 < length rs → (get_or rs 0 e).first ≡ 0 → IsFirstOpen (indexes_of rs) 0 ((get_or rs 0 e).last + 1)
first_open rs e h n z = open_behind rs 0 0 e h (place_zero rs) n (omega arith)

pub zero_open : (rs : List IndexRange) → AreKept rs → ((d : IndexRange) → 0 < length rs → (get_or rs 0 d).first ≢ 0) → IsFirstOpen (indexes_of rs) 0 0
zero_open rs h out = open_here rs 0 (place_out rs 0 0 h (place_zero rs) (λ d n. omega (arith, out d n)))
