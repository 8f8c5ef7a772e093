-- What ranges cover.
use Rattle.std.proofs.Common.{◌≡◌, ℕ, zero, suc, ◌+◌, ◌-◌, ◌<◌, ◌≤◌, true, false, List, [], ◌∷◌, ◌++◌, length, get_or, refl, arith}
use Rattle.std.specs.Prelude.{◌||◌}
use Rattle.std.specs.List.{range_with_len}
use Rattle.std.proofs.lemmas.Bool.Decides.{nat_tests}
use Rattle.geo_base.specs.Cursor.{has}
use Rattle.cursor_acks.specs.declared.range.IndexRange.{IndexRange}
use Rattle.cursor_acks.specs.Ranges.{AreApart, covers, indexes_of}
use Rattle.cursor_acks.proofs.Sets.{Rising, has_append, has_range, rising_range}

pub covers_at : (rs : List IndexRange) (k : ℕ) (d : IndexRange) (i : ℕ) → k < length rs → (get_or rs k d).first ≤ i → i ≤ (get_or rs k d).last → covers rs i ≡ true
covers_at [] k d i n a b = absurd (omega arith)
covers_at (r ∷ rs) zero d i n a b = grind (arith, nat_tests, a, b)
covers_at (r ∷ rs) (suc k) d i n a b = grind (arith, covers_at rs k d i (omega arith) a b)

pub uncovered : (rs : List IndexRange) (i : ℕ) → ((k : ℕ) (d : IndexRange) → k < length rs → (get_or rs k d).first ≤ i → i ≤ (get_or rs k d).last → ⊥) → covers rs i ≡ false
uncovered [] i h = refl
uncovered (r ∷ rs) i h =
    grind (arith, nat_tests, h zero r, uncovered rs i (λ k d n. h (suc k) d (omega arith)))

pub covers_append : (rs ss : List IndexRange) (i : ℕ) → covers (rs ++ ss) i ≡ (covers rs i || covers ss i)
covers_append [] ss i = refl
covers_append (r ∷ rs) ss i = grind (arith, covers_append rs ss i)

pub has_indexes : (rs : List IndexRange) (i : ℕ) → has (indexes_of rs) i ≡ covers rs i
has_indexes [] i = refl
has_indexes (r ∷ rs) i =
    grind (arith, nat_tests, has_append (range_with_len r.first (r.last + 1 - r.first)) (indexes_of rs) i, has_range r.first (r.last + 1 - r.first) i, has_indexes rs i)

pub apart_tail : (r : IndexRange) (rs : List IndexRange) → AreApart (r ∷ rs) → AreApart rs
apart_tail r rs h = record {
  each = λ k d n. h.each (suc k) d (omega arith);
  gaps = λ i j d lt n. h.gaps (suc i) (suc j) d (omega arith) (omega arith);
}

pub rising_indexes : (low : ℕ) (rs : List IndexRange) → AreApart rs → (0 < length rs → (d : IndexRange) → low ≤ (get_or rs 0 d).first) → Rising low (indexes_of rs)
rising_indexes low [] h le = tt
rising_indexes low (r ∷ rs) h le =
    rising_range low r.first (r.last + 1 - r.first) (indexes_of rs) (le (omega arith) r) (rising_indexes (r.first + (r.last + 1 - r.first)) rs (apart_tail r rs h) (λ n d. omega (arith, h.each 0 r, h.gaps 0 1 d)))
