-- Where an index stands among the blocks, and so among all ranges.
use Rattle.std.proofs.Common.{◌≡◌, ℕ, zero, suc, ◌+◌, ◌-◌, ◌*◌, ◌<◌, ◌≤◌, ◌^◌, nat_lt, true, false, List, [], ◌∷◌, ◌++◌, inl, inr, length, get_or, drop, refl, ap, sym, ◌∙◌, arith}
use Rattle.std.specs.List.{All}
use Rattle.std.specs.List.Sorted.{IsNonDecreasingBy, IsPartitionPoint}
use Rattle.std.proofs.lemmas.Bool.{cases_lt, ltb-false, ltb-true}
use Rattle.std.proofs.lemmas.List.{drop_all, drop_more, get_or_append_left, get_or_default, length-append}
use Rattle.cursor_acks.specs.declared.range.IndexRange.{IndexRange}
use Rattle.cursor_acks.specs.declared.range_index.RangeIndex.{RangeIndex}
use Rattle.cursor_acks.specs.Blocks.{IsFound, IsRange, IsSlot, count_before, end_of, flat, joined, no_range}
use Rattle.cursor_acks.specs.RangeIndexes.{AreKept, IsPlace}
use Rattle.cursor_acks.proofs.Joined.{Ranges, block_range, block_within, next_block}
use Rattle.cursor_acks.proofs.RangeIndexes.{place_at, rises}

-- ---- a part of ranges that are kept

pub kept_left : (xs ys : Ranges) → AreKept (xs ++ ys) → AreKept xs
kept_left xs ys h = record {
  apart = record {
    each = λ k d n. rw (get_or_append_left xs ys d k n) at (h.apart.each k d (omega (arith, n, length-append xs ys)));
    gaps = λ i j d lt n. rw (get_or_append_left xs ys d i (omega (arith, lt, n)), get_or_append_left xs ys d j n) at (h.apart.gaps i j d lt (omega (arith, n, length-append xs ys)));
  };
  bounded = λ k d n. rw (get_or_append_left xs ys d k n) at (h.bounded k d (omega (arith, n, length-append xs ys)));
}

below_all : (bs : List Ranges) (k o : ℕ) → k < length bs → o < length (get_or bs k []) → count_before bs k + o < length (joined bs)
below_all bs k o lt n = omega (arith, block_within bs k (o + 1) lt (omega (arith, n)))

pub block_kept : (bs : List Ranges) (k : ℕ) → k < length bs → AreKept (joined bs) → AreKept (get_or bs k [])
block_kept bs k lt h = record {
  apart = record {
    each = λ o d n. rw (block_range bs k o d lt n) at (h.apart.each (count_before bs k + o) d (below_all bs k o lt n));
    gaps = λ i j d less n. rw (block_range bs k i d lt (omega (arith, less, n)), block_range bs k j d lt n) at (h.apart.gaps (count_before bs k + i) (count_before bs k + j) d (omega (arith, less)) (below_all bs k j lt n));
  };
  bounded = λ o d n. rw (block_range bs k o d lt n) at (h.bounded (count_before bs k + o) d (below_all bs k o lt n));
}

-- there are fewer of them than a list can count: each begins at least two after the one before
far : (rs : Ranges) → AreKept rs → (k : ℕ) (d : IndexRange) → k < length rs → 2 * k ≤ (get_or rs k d).first
far rs h zero d n = omega arith
far rs h (suc k) d n = omega (arith, far rs h k d (omega (arith, n)), h.apart.each k d (omega (arith, n)), h.apart.gaps k (suc k) d (omega arith) n)

pub kept_few : (rs : Ranges) → AreKept rs → length rs < 2 ^ 64
kept_few rs h =
    elim (cases_lt 0 (length rs)) [
      | inl some ↦
          let n : length rs - 1 < length rs = omega (arith, some) in
          omega (arith, far rs h (length rs - 1) no_range n, h.apart.each (length rs - 1) no_range n, h.bounded (length rs - 1) no_range n)
      | inr empty ↦ omega (arith, empty)
    ]

-- ---- where blocks end

end_is : (bs : List Ranges) (k : ℕ) → k < length bs → 0 < length (get_or bs k []) → end_of (get_or bs k []) ≡ (get_or (joined bs) (count_before bs k + (length (get_or bs k []) - 1)) no_range).last
end_is bs k lt some = sym (ap (λ (r : IndexRange). r.last) (block_range bs k (length (get_or bs k []) - 1) no_range lt (omega (arith, some))))

count_rises : (bs : List Ranges) (i j : ℕ) → i < j → j < length bs → count_before bs i + length (get_or bs i []) ≤ count_before bs j
count_rises [] i j lt n = absurd (omega (arith, n))
count_rises (b ∷ bs) i zero lt n = absurd (omega (arith, lt))
count_rises (b ∷ bs) zero (suc j) lt n = omega arith
count_rises (b ∷ bs) (suc i) (suc j) lt n = omega (arith, count_rises bs i j (omega (arith, lt)) (omega (arith, n)))

pub ends_rise : (bs : List Ranges) → AreKept (joined bs) → All (λ (b : Ranges). 0 < length b) bs → IsNonDecreasingBy end_of bs
ends_rise bs h some i j d le n =
    elim (cases_lt i j) [
      | inl lt ↦
          let i' : i < length bs = omega (arith, lt, n) in
          let at_i : 0 < length (get_or bs i []) = some i [] i' in
          let at_j : 0 < length (get_or bs j []) = some j [] n in
          let last_j : count_before bs j + (length (get_or bs j []) - 1) < length (joined bs) = below_all bs j (length (get_or bs j []) - 1) n (omega (arith, at_j)) in
          let up : (get_or (joined bs) (count_before bs i + (length (get_or bs i []) - 1)) no_range).last ≤ (get_or (joined bs) (count_before bs j + (length (get_or bs j []) - 1)) no_range).last =
          rises (joined bs) h (count_before bs i + (length (get_or bs i []) - 1)) (count_before bs j + (length (get_or bs j []) - 1)) no_range (omega (arith, count_rises bs i j lt n, at_i)) last_j in
          omega (arith, ap end_of (get_or_default bs i d [] i'), ap end_of (get_or_default bs j d [] n), end_is bs i i' at_i, end_is bs j n at_j, up)
      | inr over ↦
          let same : i ≡ j = omega (arith, le, over) in
          rw same (omega arith)
    ]

-- where a search by the ends of blocks stops
pub found_point : (bs : List Ranges) (i at : ℕ) → IsPartitionPoint (λ (b : Ranges). nat_lt (end_of b) i ≡ true) (λ (b : Ranges). nat_lt (end_of b) i ≡ false) bs at
    → (0 < at → end_of (get_or bs (at - 1) []) < i) × (at < length bs → i ≤ end_of (get_or bs at []))
found_point bs i at p = (
  λ pos. ltb-true _ _ (p.0 (at - 1) [] (omega arith) (omega (arith, pos))),
  λ lt. ltb-false _ _ (p.1 at [] (omega arith) lt),
)

pub end_none : (b : Ranges) → length b ≡ 0 → 0 ≡ end_of b
end_none [] e = refl
end_none (r ∷ b) e = absurd (omega (arith, e))

pub count_zero : (bs : List Ranges) → count_before bs 0 ≡ 0
count_zero [] = refl
count_zero (b ∷ bs) = refl

pub end_block : (bs : List Ranges) (k : ℕ) → k + 1 ≡ length bs → count_before bs k + length (get_or bs k []) ≡ length (joined bs)
end_block [] k e = absurd (omega (arith, e))
end_block (b ∷ []) zero e = omega (arith, length-append b [])
end_block (b ∷ c ∷ bs) zero e = absurd (omega (arith, e))
end_block (b ∷ bs) (suc k) e = omega (arith, length-append b (joined bs), end_block bs k (omega (arith, e)))

pub flat_zero : (bs : List Ranges) (p : RangeIndex) → p.block ≡ 0 → p.offset ≡ 0 → flat bs p ≡ 0
flat_zero bs p e f =
    let start : count_before bs p.block ≡ 0 = ap (λ n. count_before bs n) e ∙ count_zero bs in
    omega (arith, start, f)

-- ---- the range_index

at_range : (bs : List Ranges) (k o i : ℕ) → AreKept (joined bs) → k < length bs → o ≤ length (get_or bs k []) → IsPlace (get_or bs k []) i o
    → (0 < k → (0 < length (get_or bs (k - 1) [])) × (end_of (get_or bs (k - 1) []) < i)) → 0 < count_before bs k + o → (get_or (joined bs) (count_before bs k + o - 1) no_range).last < i
at_range bs k o i h lt w p low some =
    elim (cases_lt 0 o) [
      | inl inside ↦
          let same : count_before bs k + o - 1 ≡ count_before bs k + (o - 1) = omega (arith, inside) in
          let there : (get_or (joined bs) (count_before bs k + o - 1) no_range).last ≡ (get_or (get_or bs k []) (o - 1) no_range).last =
          ap (λ n. (get_or (joined bs) n no_range).last) same ∙ ap (λ (r : IndexRange). r.last) (block_range bs k (o - 1) no_range lt (omega (arith, inside, w))) in
          omega (arith, there, p.before (o - 1) no_range (omega arith) (omega (arith, inside)))
      | inr start ↦ elim (cases_lt 0 k) [
        | inl pos ↦
            let before : k - 1 < length bs = omega (arith, lt) in
            let next : k ≡ suc (k - 1) = omega (arith, pos) in
            let count : count_before bs k ≡ count_before bs (k - 1) + length (get_or bs (k - 1) []) = ap (λ n. count_before bs n) next ∙ next_block bs (k - 1) before in
            let same : count_before bs k + o - 1 ≡ count_before bs (k - 1) + (length (get_or bs (k - 1) []) - 1) = omega (arith, count, start, (low pos).0) in
            let there : (get_or (joined bs) (count_before bs k + o - 1) no_range).last ≡ end_of (get_or bs (k - 1) []) =
            ap (λ n. (get_or (joined bs) n no_range).last) same ∙ sym (end_is bs (k - 1) before (low pos).0) in
            omega (arith, there, (low pos).1)
        | inr first ↦
            let at_start : k ≡ 0 = omega (arith, first) in
            let none_before : count_before bs k ≡ 0 = ap (λ n. count_before bs n) at_start ∙ count_zero bs in
            absurd (omega (arith, some, none_before, start))
      ]
    ]

pub found_full : (bs : List Ranges) (k o i : ℕ) → 0 < length (get_or bs k []) → i ≤ end_of (get_or bs k []) → IsPlace (get_or bs k []) i o → o < length (get_or bs k [])
found_full bs k o i some high p =
    elim (cases_lt o (length (get_or bs k []))) [
      | inl lt ↦ lt
      | inr over ↦
          let end : end_of (get_or bs k []) ≡ (get_or (get_or bs k []) (length (get_or bs k []) - 1) no_range).last = refl in
          absurd (omega (arith, high, end, p.before (length (get_or bs k []) - 1) no_range (omega arith) (omega (arith, over, some))))
    ]

pub found_place : (bs : List Ranges) (k o i : ℕ) → AreKept (joined bs) → k < length bs → ((j : ℕ) → j + 1 < length bs → 0 < length (get_or bs j []))
    → (0 < k → end_of (get_or bs (k - 1) []) < i) → IsPlace (get_or bs k []) i o → (k + 1 < length bs → o < length (get_or bs k [])) → IsPlace (joined bs) i (count_before bs k + o)
found_place bs k o i h lt some low p full =
    place_at (joined bs) i (count_before bs k + o) h (block_within bs k o lt p.within)
    (at_range bs k o i h lt p.within p (λ pos. (some (k - 1) (omega (arith, pos, lt)), low pos)))
    (λ n. elim (cases_lt o (length (get_or bs k []))) [
      | inl inside ↦ omega (arith, ap (λ (r : IndexRange). r.last) (block_range bs k o no_range lt inside), p.after o no_range (omega arith) inside)
      | inr over ↦
          let last : k + 1 ≡ length bs = elim (cases_lt (k + 1) (length bs)) [
            | inl more ↦ absurd (omega (arith, full more, over))
            | inr end ↦ omega (arith, end, lt)
          ] in
          absurd (omega (arith, n, over, end_block bs k last))
    ])

pub found_at : (bs : List Ranges) (k o i : ℕ) → AreKept (joined bs) → k < length bs → ((j : ℕ) → j + 1 < length bs → 0 < length (get_or bs j []))
    → (0 < k → end_of (get_or bs (k - 1) []) < i) → (k + 1 < length bs → i ≤ end_of (get_or bs k [])) → IsPlace (get_or bs k []) i o
    → IsFound bs (record { block = k; offset = o }) × IsPlace (joined bs) i (count_before bs k + o)
found_at bs k o i h lt some low high p =
    let full : k + 1 < length bs → o < length (get_or bs k []) = λ more. found_full bs k o i (some k more) (high more) p in
    (record { slot = record { block = lt; offset = p.within }; full = full }, found_place bs k o i h lt some low p full)

-- ---- the range at a range_index, and the range_index before it

pub range_at : (bs : List Ranges) (p : RangeIndex) (d : IndexRange) → IsRange bs p → get_or (joined bs) (flat bs p) d ≡ get_or (get_or bs p.block []) p.offset d
range_at bs p d h = block_range bs p.block p.offset d h.block h.offset

pub range_within : (bs : List Ranges) (p : RangeIndex) → IsRange bs p → flat bs p < length (joined bs)
range_within bs p h = below_all bs p.block p.offset h.block h.offset

pub range_found : (bs : List Ranges) (p : RangeIndex) → IsRange bs p → IsFound bs p
range_found bs p h = record {
  slot = record { block = h.block; offset = omega (arith, h.offset) };
  full = λ _. h.offset;
}

pub found_end : (bs : List Ranges) (p : RangeIndex) → IsFound bs p → length (get_or bs p.block []) ≤ p.offset → length (joined bs) ≤ flat bs p
found_end bs p h over =
    let last : p.block + 1 ≡ length bs = elim (cases_lt (p.block + 1) (length bs)) [
      | inl more ↦ absurd (omega (arith, h.full more, over))
      | inr end ↦ omega (arith, end, h.slot.block)
    ] in
    omega (arith, end_block bs p.block last, over)

pub range_before : (bs : List Ranges) (p : RangeIndex) → IsSlot bs p → 0 < p.offset
    → IsRange bs (record { block = p.block; offset = p.offset - 1 }) × (flat bs (record { block = p.block; offset = p.offset - 1 }) + 1 ≡ flat bs p)
range_before bs p h pos = (record { block = h.block; offset = omega (arith, h.offset, pos) }, omega (arith, pos))

pub last_of_block : (bs : List Ranges) (p : RangeIndex) (n : ℕ) → IsSlot bs p → 0 < p.block → p.offset ≡ 0 → n ≡ length (get_or bs (p.block - 1) []) → 0 < n
    → IsRange bs (record { block = p.block - 1; offset = n - 1 }) × (flat bs (record { block = p.block - 1; offset = n - 1 }) + 1 ≡ flat bs p)
last_of_block bs p n h pos start size some =
    let before : p.block - 1 < length bs = omega (arith, h.block) in
    let next : p.block ≡ suc (p.block - 1) = omega (arith, pos) in
    let count : count_before bs p.block ≡ count_before bs (p.block - 1) + length (get_or bs (p.block - 1) []) = ap (λ k. count_before bs k) next ∙ next_block bs (p.block - 1) before in
    (record { block = before; offset = omega (arith, size, some) }, omega (arith, count, size, some, start))

-- ---- going over the blocks

pub next_part : (bs : List Ranges) (k : ℕ) → k < length bs → get_or bs k [] ++ joined (drop (k + 1) bs) ≡ joined (drop k bs)
next_part bs k lt = ap joined (sym (drop_more bs k [] lt))

pub last_part : (bs : List Ranges) (k : ℕ) → length bs ≤ k → joined (drop k bs) ≡ []
last_part bs k le = ap joined (drop_all k bs le)

pub first_part : (bs : List Ranges) → 0 < length bs → get_or bs 0 [] ++ joined (drop 1 bs) ≡ joined bs
first_part [] some = absurd (omega (arith, some))
first_part (b ∷ bs) some = refl

pub no_ranges : (bs : List Ranges) → length bs ≤ 1 → get_or bs 0 [] ≡ [] → joined bs ≡ []
no_ranges [] few e = refl
no_ranges (b ∷ []) few e = rw e refl
no_ranges (b ∷ c ∷ bs) few e = absurd (omega (arith, few))

-- how many ranges all blocks have
pub count_all : (bs : List Ranges) → count_before bs (length bs) ≡ length (joined bs)
count_all [] = refl
count_all (b ∷ bs) = omega (arith, length-append b (joined bs), count_all bs)
