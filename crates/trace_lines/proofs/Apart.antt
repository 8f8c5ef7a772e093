-- Ranges that ascend, with a gap between each two, and one more after them.
use Rattle.std.proofs.Common.{◌≡◌, ℕ, zero, suc, ◌+◌, ◌<◌, ◌≤◌, true, List, [], ◌∷◌, ◌++◌, length, get_or, arith, refl}
use Rattle.std.specs.Prelude.{Some, nat_le}
use Rattle.std.proofs.lemmas.Bool.{leb-true}
use Rattle.cursor_acks.specs.declared.range.IndexRange.{IndexRange}
use Rattle.cursor_acks.specs.Ranges.{AreApart}
use Rattle.cursor_acks.proofs.Covered.{apart_tail}
use Rattle.trace_lines.specs.Ranges.{last_of, least_behind}

pub none_apart : AreApart []
none_apart = record { each = λ k d n. absurd (omega (arith, n)); gaps = λ i j d lt n. absurd (omega (arith, n)) }

-- each of them ends two before what may follow
ends_before : (rs : List IndexRange) (first : ℕ) → AreApart rs → nat_le (least_behind (last_of rs)) first ≡ true → (k : ℕ) (d : IndexRange) → k < length rs → (get_or rs k d).last + 1 < first
ends_before [] first h le k d n = absurd (omega (arith, n))
ends_before (r ∷ []) first h le zero d n = let l = leb-true (r.last + 2) first le in omega (arith, l)
ends_before (r ∷ []) first h le (suc k) d n = absurd (omega (arith, n))
ends_before (r ∷ q ∷ rs) first h le zero d n =
    let tail = ends_before (q ∷ rs) first (apart_tail r (q ∷ rs) h) le zero d (omega arith) in
    let gap = h.gaps 0 1 d (omega arith) (omega arith) in let own = h.each 1 d (omega arith) in omega (arith, tail, gap, own)
ends_before (r ∷ q ∷ rs) first h le (suc k) d n = ends_before (q ∷ rs) first (apart_tail r (q ∷ rs) h) le k d (omega (arith, n))

-- what is true of each, and of one after them
each_push : (P : IndexRange → Type 0) (rs : List IndexRange) (r : IndexRange) → ((k : ℕ) (d : IndexRange) → k < length rs → P (get_or rs k d)) → P r
    → (k : ℕ) (d : IndexRange) → k < length (rs ++ r ∷ []) → P (get_or (rs ++ r ∷ []) k d)
each_push P [] r h own zero d n = own
each_push P [] r h own (suc k) d n = absurd (omega (arith, n))
each_push P (q ∷ rs) r h own zero d n = h zero d (omega arith)
each_push P (q ∷ rs) r h own (suc k) d n = each_push P rs r (λ j e m. h (suc j) e (omega (arith, m))) own k d (omega (arith, n))

gaps_push : (rs : List IndexRange) (r : IndexRange) → AreApart rs → ((k : ℕ) (d : IndexRange) → k < length rs → (get_or rs k d).last + 1 < r.first)
    → (i j : ℕ) (d : IndexRange) → i < j → j < length (rs ++ r ∷ []) → (get_or (rs ++ r ∷ []) i d).last + 1 < (get_or (rs ++ r ∷ []) j d).first
gaps_push [] r h before i zero d lt n = absurd (omega (arith, lt))
gaps_push [] r h before i (suc j) d lt n = absurd (omega (arith, n))
gaps_push (q ∷ rs) r h before i zero d lt n = absurd (omega (arith, lt))
gaps_push (q ∷ rs) r h before (suc i) (suc j) d lt n =
    gaps_push rs r (apart_tail q rs h) (λ k e m. before (suc k) e (omega (arith, m))) i j d (omega (arith, lt)) (omega (arith, n))
gaps_push (q ∷ rs) r h before zero (suc j) d lt n =
    each_push (λ (s : IndexRange). q.last + 1 < s.first) rs r (λ k e m. h.gaps 0 (suc k) e (omega arith) (omega (arith, m))) (before 0 d (omega arith)) j d (omega (arith, n))

pub one_more_apart : (rs : List IndexRange) (r : IndexRange) → AreApart rs → r.first ≤ r.last → nat_le (least_behind (last_of rs)) r.first ≡ true → AreApart (rs ++ r ∷ [])
one_more_apart rs r h own le = record {
  each = each_push (λ (s : IndexRange). s.first ≤ s.last) rs r h.each own;
  gaps = gaps_push rs r h (ends_before rs r.first h le);
}

pub last_behind : (rs : List IndexRange) (r : IndexRange) → last_of (rs ++ r ∷ []) ≡ Some r.last
last_behind [] r = refl
last_behind (q ∷ []) r = refl
last_behind (q ∷ p ∷ rs) r = last_behind (p ∷ rs) r
