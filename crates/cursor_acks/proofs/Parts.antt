-- What an edit of the parts of a list makes of its ranges and of its spare.
use Rattle.std.proofs.Common.{◌≡◌, ℕ, zero, suc, ◌+◌, ◌-◌, ◌<◌, ◌≤◌, ◌^◌, List, [], ◌∷◌, ◌++◌, inl, inr, length, get_or, take, drop, set, refl, ap, sym, ◌∙◌, arith}
use Rattle.std.specs.List.{All}
use Rattle.std.proofs.lemmas.Bool.{cases_lt}
use Rattle.std.proofs.Math.Seq.{drop-append-add}
use Rattle.std.proofs.lemmas.List.{drop-append-le, drop_at, drop_more, get_or_append_left, get_or_at, length-append, length-drop, length-set, length-take-le, nil_from_length, set-append_left, set_at, set_split, take-append-le, take-take}
use Rattle.cursor_acks.specs.declared.range.IndexRange.{IndexRange}
use Rattle.cursor_acks.specs.declared.range_index.RangeIndex.{RangeIndex}
use Rattle.cursor_acks.specs.Blocks.{AreParts, IsRange, IsSlot, count_before, excess, flat, joined, spare_of, split_at}
use Rattle.cursor_acks.proofs.Joined.{Ranges, drop_joined, edit_joined, excess_append, excess_at, excess_drop, excess_set, joined_append, same_places, split_before, split_last, split_length, split_lower, split_upper}

-- ---- a block before the last, and the last

pub get_first : (xs : List Ranges) (l : Ranges) (k : ℕ) → k < length xs → get_or (xs ++ l ∷ []) k [] ≡ get_or xs k []
get_first xs l k lt = get_or_append_left xs (l ∷ []) [] k lt

pub get_end : (xs : List Ranges) (l : Ranges) (k : ℕ) → k ≡ length xs → get_or (xs ++ l ∷ []) k [] ≡ l
get_end xs l k e = get_or_at xs l [] [] k (sym e)

-- past the blocks before it stands the last
pub at_end : (xs : List Ranges) (l : Ranges) (k : ℕ) → k < length (xs ++ l ∷ []) → length xs ≤ k → k ≡ length xs
at_end xs l k lt le = omega (arith, lt, le, length-append xs (l ∷ []))

pub edit_first : (xs : List Ranges) (l : Ranges) (k o p : ℕ) (ys : Ranges) → k < length xs → o ≤ length (get_or xs k []) → p ≤ length (get_or xs k [])
    → joined (set xs k (take o (get_or xs k []) ++ (ys ++ drop p (get_or xs k []))) ++ l ∷ []) ≡ take (count_before (xs ++ l ∷ []) k + o) (joined (xs ++ l ∷ [])) ++ (ys ++ drop (count_before (xs ++ l ∷ []) k + p) (joined (xs ++ l ∷ [])))
edit_first xs l k o p ys lt low high =
    let bs : List Ranges = xs ++ l ∷ [] in
    let same : get_or bs k [] ≡ get_or xs k [] = get_first xs l k lt in
    let size : length (get_or bs k []) ≡ length (get_or xs k []) = ap length same in
    ap joined (sym (set-append_left xs (l ∷ []) k (take o (get_or xs k []) ++ (ys ++ drop p (get_or xs k []))) lt) ∙ ap (λ (b : Ranges). set bs k (take o b ++ (ys ++ drop p b))) (sym same))
    ∙ edit_joined bs k o p ys (omega (arith, lt, length-append xs (l ∷ []))) (omega (arith, size, low)) (omega (arith, size, high))

pub edit_end : (xs : List Ranges) (l : Ranges) (k o p : ℕ) (ys : Ranges) → k ≡ length xs → o ≤ length l → p ≤ length l
    → joined (xs ++ (take o l ++ (ys ++ drop p l)) ∷ []) ≡ take (count_before (xs ++ l ∷ []) k + o) (joined (xs ++ l ∷ [])) ++ (ys ++ drop (count_before (xs ++ l ∷ []) k + p) (joined (xs ++ l ∷ [])))
edit_end xs l k o p ys e low high =
    let bs : List Ranges = xs ++ l ∷ [] in
    let same : get_or bs k [] ≡ l = get_end xs l k e in
    let size : length (get_or bs k []) ≡ length l = ap length same in
    ap joined (sym (set_at xs l [] (take o l ++ (ys ++ drop p l)) k (sym e)) ∙ ap (λ (b : Ranges). set bs k (take o b ++ (ys ++ drop p b))) (sym same))
    ∙ edit_joined bs k o p ys (omega (arith, e, length-append xs (l ∷ []))) (omega (arith, size, low)) (omega (arith, size, high))

-- ---- another range

pub set_first : (xs : List Ranges) (l : Ranges) (k o : ℕ) (r : IndexRange) → k < length xs → o < length (get_or xs k [])
    → joined (set xs k (set (get_or xs k []) o r) ++ l ∷ []) ≡ take (count_before (xs ++ l ∷ []) k + o) (joined (xs ++ l ∷ [])) ++ r ∷ drop (count_before (xs ++ l ∷ []) k + o + 1) (joined (xs ++ l ∷ []))
set_first xs l k o r lt w =
    let next : count_before (xs ++ l ∷ []) k + suc o ≡ count_before (xs ++ l ∷ []) k + o + 1 = omega arith in
    ap (λ (b : Ranges). joined (set xs k b ++ l ∷ [])) (set_split (get_or xs k []) o r w)
    ∙ edit_first xs l k o (suc o) (r ∷ []) lt (omega (arith, w)) (omega (arith, w))
    ∙ ap (λ n. take (count_before (xs ++ l ∷ []) k + o) (joined (xs ++ l ∷ [])) ++ r ∷ drop n (joined (xs ++ l ∷ []))) next

pub set_end : (xs : List Ranges) (l : Ranges) (k o : ℕ) (r : IndexRange) → k ≡ length xs → o < length l
    → joined (xs ++ set l o r ∷ []) ≡ take (count_before (xs ++ l ∷ []) k + o) (joined (xs ++ l ∷ [])) ++ r ∷ drop (count_before (xs ++ l ∷ []) k + o + 1) (joined (xs ++ l ∷ []))
set_end xs l k o r e w =
    let next : count_before (xs ++ l ∷ []) k + suc o ≡ count_before (xs ++ l ∷ []) k + o + 1 = omega arith in
    ap (λ (b : Ranges). joined (xs ++ b ∷ [])) (set_split l o r w)
    ∙ edit_end xs l k o (suc o) (r ∷ []) e (omega (arith, w)) (omega (arith, w))
    ∙ ap (λ n. take (count_before (xs ++ l ∷ []) k + o) (joined (xs ++ l ∷ [])) ++ r ∷ drop n (joined (xs ++ l ∷ []))) next

-- it moves no range_index
same_range : (bs : List Ranges) (k : ℕ) (b : Ranges) (p : RangeIndex) → length b ≡ length (get_or bs k []) → IsRange bs p → IsRange (set bs k b) p × (flat (set bs k b) p ≡ flat bs p)
same_range bs k b p e h =
    let same = same_places bs k b p.block e in
    (record { block = omega (arith, h.block, length-set bs k b); offset = omega (arith, same.1, h.offset) }, omega (arith, same.0))

pub places_first : (xs : List Ranges) (l : Ranges) (k o : ℕ) (r : IndexRange) (p : RangeIndex) → k < length xs → IsRange (xs ++ l ∷ []) p
    → IsRange (set xs k (set (get_or xs k []) o r) ++ l ∷ []) p × (flat (set xs k (set (get_or xs k []) o r) ++ l ∷ []) p ≡ flat (xs ++ l ∷ []) p)
places_first xs l k o r p lt h =
    rw (← set-append_left xs (l ∷ []) k (set (get_or xs k []) o r) lt)
    (same_range (xs ++ l ∷ []) k (set (get_or xs k []) o r) p (omega (arith, length-set (get_or xs k []) o r, ap length (get_first xs l k lt))) h)

pub places_end : (xs : List Ranges) (l : Ranges) (o : ℕ) (r : IndexRange) (p : RangeIndex) → IsRange (xs ++ l ∷ []) p
    → IsRange (xs ++ set l o r ∷ []) p × (flat (xs ++ set l o r ∷ []) p ≡ flat (xs ++ l ∷ []) p)
places_end xs l o r p h =
    rw (← set_at xs l [] (set l o r) (length xs) refl)
    (same_range (xs ++ l ∷ []) (length xs) (set l o r) p (omega (arith, length-set l o r, ap length (get_end xs l (length xs) refl))) h)

pub set_excess : (xs : List Ranges) (k o : ℕ) (r : IndexRange) → k < length xs → excess (set xs k (set (get_or xs k []) o r)) ≡ excess xs
set_excess xs k o r lt = omega (arith, excess_set xs k (set (get_or xs k []) o r) lt, length-set (get_or xs k []) o r)

-- ---- one range more

pub insert_length : (b : Ranges) (o : ℕ) (r : IndexRange) → o ≤ length b → length (take o b ++ r ∷ drop o b) ≡ length b + 1
insert_length b o r le = omega (arith, length-append (take o b) (r ∷ drop o b), length-take-le o b le, length-drop o b, le)

pub insert_excess : (xs : List Ranges) (k o : ℕ) (r : IndexRange) → k < length xs → o ≤ length (get_or xs k []) → excess (set xs k (take o (get_or xs k []) ++ r ∷ drop o (get_or xs k []))) ≤ excess xs + 1
insert_excess xs k o r lt le =
    omega (arith, excess_set xs k (take o (get_or xs k []) ++ r ∷ drop o (get_or xs k [])) lt, insert_length (get_or xs k []) o r le)

pub insert_counted : (xs : List Ranges) (k o over : ℕ) (r : IndexRange) → k < length xs → o ≤ length (get_or xs k []) → over ≡ excess xs → 32 ≤ length (get_or xs k [])
    → over + 1 ≡ excess (set xs k (take o (get_or xs k []) ++ r ∷ drop o (get_or xs k [])))
insert_counted xs k o over r lt le e high =
    omega (arith, excess_set xs k (take o (get_or xs k []) ++ r ∷ drop o (get_or xs k [])) lt, insert_length (get_or xs k []) o r le, e, high)

pub insert_uncounted : (xs : List Ranges) (k o over : ℕ) (r : IndexRange) → k < length xs → o ≤ length (get_or xs k []) → over ≡ excess xs → length (get_or xs k []) < 32
    → over ≡ excess (set xs k (take o (get_or xs k []) ++ r ∷ drop o (get_or xs k [])))
insert_uncounted xs k o over r lt le e low =
    omega (arith, excess_set xs k (take o (get_or xs k []) ++ r ∷ drop o (get_or xs k [])) lt, insert_length (get_or xs k []) o r le, e, low)

-- ---- one range less

pub remove_length : (b : Ranges) (o : ℕ) → o < length b → length (take o b ++ drop (o + 1) b) + 1 ≡ length b
remove_length b o lt = omega (arith, length-append (take o b) (drop (o + 1) b), length-take-le o b (omega (arith, lt)), length-drop (o + 1) b, lt)

pub remove_counted : (xs : List Ranges) (k o over : ℕ) → k < length xs → o < length (get_or xs k []) → over ≡ excess xs → 32 < length (get_or xs k [])
    → over - 1 ≡ excess (set xs k (take o (get_or xs k []) ++ drop (o + 1) (get_or xs k [])))
remove_counted xs k o over lt w e high =
    omega (arith, excess_set xs k (take o (get_or xs k []) ++ drop (o + 1) (get_or xs k [])) lt, remove_length (get_or xs k []) o w, e, high)

pub remove_uncounted : (xs : List Ranges) (k o over : ℕ) → k < length xs → o < length (get_or xs k []) → over ≡ excess xs → length (get_or xs k []) ≤ 32
    → over ≡ excess (set xs k (take o (get_or xs k []) ++ drop (o + 1) (get_or xs k [])))
remove_uncounted xs k o over lt w e low =
    omega (arith, excess_set xs k (take o (get_or xs k []) ++ drop (o + 1) (get_or xs k [])) lt, remove_length (get_or xs k []) o w, e, low)

pub remove_excess : (xs : List Ranges) (k o : ℕ) → k < length xs → o < length (get_or xs k []) → excess (set xs k (take o (get_or xs k []) ++ drop (o + 1) (get_or xs k []))) ≤ excess xs
remove_excess xs k o lt w =
    omega (arith, excess_set xs k (take o (get_or xs k []) ++ drop (o + 1) (get_or xs k [])) lt, remove_length (get_or xs k []) o w)

pub remove_some : (xs : List Ranges) (k o : ℕ) → o < length (get_or xs k []) → 1 < length (get_or xs k []) → 0 < length (take o (get_or xs k []) ++ drop (o + 1) (get_or xs k []))
remove_some xs k o w more = omega (arith, remove_length (get_or xs k []) o w, more)

-- a block with one range goes with it
pub gone_joined : (xs : List Ranges) (k o : ℕ) → k < length xs → length (get_or xs k []) ≡ 1 → o < length (get_or xs k [])
    → joined (take k xs ++ drop (suc k) xs) ≡ joined (set xs k (take o (get_or xs k []) ++ drop (o + 1) (get_or xs k [])))
gone_joined [] k o lt one w = absurd (omega (arith, lt))
gone_joined (x ∷ xs) zero o lt one w =
    let empty : take o x ++ drop (o + 1) x ≡ [] = nil_from_length (take o x ++ drop (o + 1) x) (omega (arith, remove_length x o w, one)) in
    sym (ap (λ (ys : Ranges). ys ++ joined xs) empty)
gone_joined (x ∷ xs) (suc k) o lt one w = ap (λ (ys : Ranges). x ++ ys) (gone_joined xs k o (omega (arith, lt)) one w)

pub gone_excess : (xs : List Ranges) (k : ℕ) → k < length xs → length (get_or xs k []) ≡ 1 → excess (take k xs ++ drop (suc k) xs) ≡ excess xs
gone_excess [] k lt one = absurd (omega (arith, lt))
gone_excess (x ∷ xs) zero lt one = omega (arith, one)
gone_excess (x ∷ xs) (suc k) lt one = omega (arith, gone_excess xs k (omega (arith, lt)) one)

pub gone_length : (xs : List Ranges) (k : ℕ) → k < length xs → length (take k xs ++ drop (suc k) xs) + 1 ≡ length xs
gone_length xs k lt = omega (arith, length-append (take k xs) (drop (suc k) xs), length-take-le k xs (omega (arith, lt)), length-drop (suc k) xs, lt)

-- joined blocks stay so before a last one
pub joined_more : (xs ys : List Ranges) (l : Ranges) → joined xs ≡ joined ys → joined (xs ++ l ∷ []) ≡ joined (ys ++ l ∷ [])
joined_more xs ys l e = joined_append xs (l ∷ []) ∙ ap (λ (zs : Ranges). zs ++ joined (l ∷ [])) e ∙ sym (joined_append ys (l ∷ []))

pub remove_first : (xs ys : List Ranges) (l : Ranges) (k o : ℕ) → k < length xs → o < length (get_or xs k []) → joined ys ≡ joined (set xs k (take o (get_or xs k []) ++ drop (o + 1) (get_or xs k [])))
    → joined (ys ++ l ∷ []) ≡ take (count_before (xs ++ l ∷ []) k + o) (joined (xs ++ l ∷ [])) ++ drop (count_before (xs ++ l ∷ []) k + o + 1) (joined (xs ++ l ∷ []))
remove_first xs ys l k o lt w e =
    let next : count_before (xs ++ l ∷ []) k + (o + 1) ≡ count_before (xs ++ l ∷ []) k + o + 1 = omega arith in
    joined_more ys (set xs k (take o (get_or xs k []) ++ drop (o + 1) (get_or xs k []))) l e
    ∙ edit_first xs l k o (o + 1) [] lt (omega (arith, w)) (omega (arith, w))
    ∙ ap (λ n. take (count_before (xs ++ l ∷ []) k + o) (joined (xs ++ l ∷ [])) ++ drop n (joined (xs ++ l ∷ []))) next

pub remove_end : (xs : List Ranges) (l : Ranges) (k o : ℕ) → k ≡ length xs → o < length l
    → joined (xs ++ (take o l ++ drop (o + 1) l) ∷ []) ≡ take (count_before (xs ++ l ∷ []) k + o) (joined (xs ++ l ∷ [])) ++ drop (count_before (xs ++ l ∷ []) k + o + 1) (joined (xs ++ l ∷ []))
remove_end xs l k o e w =
    let next : count_before (xs ++ l ∷ []) k + (o + 1) ≡ count_before (xs ++ l ∷ []) k + o + 1 = omega arith in
    edit_end xs l k o (o + 1) [] e (omega (arith, w)) (omega (arith, w))
    ∙ ap (λ n. take (count_before (xs ++ l ∷ []) k + o) (joined (xs ++ l ∷ [])) ++ drop n (joined (xs ++ l ∷ []))) next

-- ---- the first ranges gone

pub dropped_first : (xs : List Ranges) (l : Ranges) (k o : ℕ) → k < length xs → o ≤ length (get_or xs k [])
    → joined ((drop o (get_or xs k []) ∷ drop (k + 1) xs) ++ l ∷ []) ≡ drop (count_before (xs ++ l ∷ []) k + o) (joined (xs ++ l ∷ []))
dropped_first xs l k o lt w =
    let bs : List Ranges = xs ++ l ∷ [] in
    let same : get_or bs k [] ≡ get_or xs k [] = get_first xs l k lt in
    ap (λ (ys : List Ranges). joined (drop o (get_or xs k []) ∷ ys)) (sym (drop-append-le (k + 1) xs (l ∷ []) (omega (arith, lt))))
    ∙ ap (λ (b : Ranges). joined (drop o b ∷ drop (k + 1) bs)) (sym same)
    ∙ drop_joined bs k o (omega (arith, lt, length-append xs (l ∷ []))) (omega (arith, ap length same, w))

dropped_all : (xs : List Ranges) (l : Ranges) (o : ℕ) → o ≤ length l → joined (drop (length xs) xs ++ drop o l ∷ []) ≡ drop (count_before (xs ++ l ∷ []) (length xs) + o) (joined (xs ++ l ∷ []))
dropped_all [] l o w =
    let same : o ≡ 0 + o = omega arith in
    sym (drop-append-le o l [] w) ∙ ap (λ n. drop n (l ++ [])) same
dropped_all (x ∷ xs) l o w =
    let same : length x + (count_before (xs ++ l ∷ []) (length xs) + o) ≡ length x + count_before (xs ++ l ∷ []) (length xs) + o = omega arith in
    dropped_all xs l o w ∙ sym (drop-append-add x (joined (xs ++ l ∷ [])) (count_before (xs ++ l ∷ []) (length xs) + o)) ∙ ap (λ n. drop n (x ++ joined (xs ++ l ∷ []))) same

pub dropped_end : (xs : List Ranges) (l : Ranges) (k o : ℕ) → k ≡ length xs → o ≤ length l → joined (drop k xs ++ drop o l ∷ []) ≡ drop (count_before (xs ++ l ∷ []) k + o) (joined (xs ++ l ∷ []))
dropped_end xs l k o e w = rw e (dropped_all xs l o w)

pub dropped_excess : (xs : List Ranges) (k o : ℕ) → k < length xs → excess (drop o (get_or xs k []) ∷ drop (k + 1) xs) ≤ excess xs
dropped_excess xs k o lt =
    omega (arith, length-drop o (get_or xs k []), excess_drop xs k, ap excess (drop_more xs k [] lt))

-- ---- a split

pub split_first : (xs : List Ranges) (l : Ranges) (k : ℕ) → k < length xs → split_at xs k ++ l ∷ [] ≡ split_at (xs ++ l ∷ []) k
split_first xs l k lt = sym (split_before xs l k lt)

pub split_end : (xs : List Ranges) (l : Ranges) (k : ℕ) → k ≡ length xs → (xs ++ take 32 l ∷ []) ++ drop 32 l ∷ [] ≡ split_at (xs ++ l ∷ []) k
split_end xs l k e = rw e (sym (split_last xs l))

-- where a range_index stands then
pub low_half : (bs : List Ranges) (p : RangeIndex) → IsSlot bs p → length (get_or bs p.block []) ≡ 64 → p.offset ≤ 32
    → IsSlot (split_at bs p.block) p × ((flat (split_at bs p.block) p ≡ flat bs p) × (length (get_or (split_at bs p.block) p.block []) < 64))
low_half bs p h full low =
    let lower = split_lower bs p.block h.block in
    let size : length (get_or (split_at bs p.block) p.block []) ≡ 32 = ap length lower.1 ∙ length-take-le 32 (get_or bs p.block []) (omega (arith, full)) in (
      record { block = omega (arith, h.block, split_length bs p.block h.block); offset = omega (arith, size, low) },
      (omega (arith, lower.0), omega (arith, size)),
    )

pub high_half : (bs : List Ranges) (p q : RangeIndex) → IsSlot bs p → length (get_or bs p.block []) ≡ 64 → 32 < p.offset → q.block ≡ p.block + 1 → q.offset ≡ p.offset - 32
    → IsSlot (split_at bs p.block) q × ((flat (split_at bs p.block) q ≡ flat bs p) × (length (get_or (split_at bs p.block) q.block []) < 64))
high_half bs p q h full high e f =
    let upper = split_upper bs p.block h.block (omega (arith, full)) in
    let half : length (drop 32 (get_or bs p.block [])) ≡ 32 = omega (arith, length-drop 32 (get_or bs p.block []), full) in
    let next : q.block ≡ suc p.block = omega (arith, e) in
    let size : length (get_or (split_at bs p.block) q.block []) ≡ 32 = ap (λ n. length (get_or (split_at bs p.block) n [])) next ∙ ap length upper.1 ∙ half in
    let count : count_before (split_at bs p.block) q.block ≡ count_before bs p.block + 32 = ap (λ n. count_before (split_at bs p.block) n) next ∙ upper.0 in (
      record { block = omega (arith, h.block, split_length bs p.block h.block, e); offset = omega (arith, size, f, full, h.offset) },
      (omega (arith, count, f, high), omega (arith, size)),
    )

-- ---- two edits in a row

pub joined_two : (rs : Ranges) (l h : ℕ) (r : IndexRange) → l + 1 ≡ h → h < length rs
    → take l (take h rs ++ r ∷ drop (h + 1) rs) ++ drop (l + 1) (take h rs ++ r ∷ drop (h + 1) rs) ≡ take l rs ++ r ∷ drop (h + 1) rs
joined_two rs l h r e lt =
    let size : length (take h rs) ≡ h = length-take-le h rs (omega (arith, lt)) in
    let low : take l (take h rs ++ r ∷ drop (h + 1) rs) ≡ take l rs = take-append-le l (take h rs) (r ∷ drop (h + 1) rs) (omega (arith, size, e)) ∙ take-take l h rs (omega (arith, e)) in
    let high : drop (l + 1) (take h rs ++ r ∷ drop (h + 1) rs) ≡ r ∷ drop (h + 1) rs = drop_at (take h rs) (r ∷ drop (h + 1) rs) (l + 1) (size ∙ sym e) in
    rw (low, high) refl

pub started_at : (rs : Ranges) (f : ℕ) (r : IndexRange) → f < length rs → drop f (take f rs ++ r ∷ drop (f + 1) rs) ≡ r ∷ drop (f + 1) rs
started_at rs f r lt = drop_at (take f rs) (r ∷ drop (f + 1) rs) f (length-take-le f rs (omega (arith, lt)))

-- ---- the parts stay parts of a list

pub parts_first : (xs ys : List Ranges) (room room' : ℕ) (l : Ranges) (cap : ℕ) (free : List Ranges) → AreParts xs room l cap free → length ys ≤ length xs → length free ≤ room' → AreParts ys room' l cap free
parts_first xs ys room room' l cap free h fewer kept = record {
  short = h.short;
  wide = λ some. h.wide (omega (arith, some, fewer));
  kept = kept;
  few = h.few;
  empty = h.empty;
}

pub parts_end : (xs : List Ranges) (room : ℕ) (l m : Ranges) (cap cap' : ℕ) (free : List Ranges) → AreParts xs room l cap free → length m ≤ 64 → cap ≤ cap' → AreParts xs room m cap' free
parts_end xs room l m cap cap' free h short more = record {
  short = short;
  wide = λ some. omega (arith, h.wide some, more);
  kept = h.kept;
  few = h.few;
  empty = h.empty;
}

-- ---- what is spare

pub spare_less : (xs ys : List Ranges) (free cap len n : ℕ) → excess ys ≤ excess xs + n → spare_of xs free cap len ≤ spare_of ys free cap len + n
spare_less xs ys free cap len n le = omega (arith, le)

pub spare_end : (xs : List Ranges) (free cap len more n : ℕ) → len ≤ more + n → more ≤ len + n → spare_of xs free cap more ≤ spare_of xs free cap len + n
spare_end xs free cap len more n low high = omega (arith, low, high)

pub spare_split : (xs ys : List Ranges) (free free' cap len : ℕ) → excess ys + 32 ≡ excess xs → free' + 1 ≡ free → spare_of ys free' cap len ≡ spare_of xs free cap len
spare_split xs ys free free' cap len e f = omega (arith, e, f)

pub spare_halved : (xs : List Ranges) (free free' cap : ℕ) → 64 ≤ cap → free' + 1 ≡ free → spare_of xs free' cap 32 ≡ spare_of xs free cap 64
spare_halved xs free free' cap wide f = omega (arith, wide, f)

-- where some is spare, a full block finds a free one, and another block has room
pub some_free : (xs : List Ranges) (free cap len k : ℕ) → k < length xs → length (get_or xs k []) ≡ 64 → 0 < spare_of xs free cap len → 0 < free
some_free xs free cap len k lt full some = omega (arith, excess_at xs k lt, full, some)

pub free_for_last : (xs : List Ranges) (free cap : ℕ) → 0 < spare_of xs free cap 64 → 0 < free
free_for_last xs free cap some = omega (arith, some)

pub last_has_room : (xs : List Ranges) (free cap len : ℕ) → (0 < length xs + free → 64 ≤ cap) → len < 64 → 0 < spare_of xs free cap len → len < cap
last_has_room xs free cap len wide lt some =
    elim (cases_lt 0 free) [
      | inl pos ↦ omega (arith, wide (omega (arith, pos)), lt)
      | inr none ↦ omega (arith, none, some)
    ]

pub few_over : (xs : List Ranges) (free cap len : ℕ) → free < 2 ^ 32 → 0 < spare_of xs free cap len → excess xs + 1 < 2 ^ 64
few_over xs free cap len few some = omega (arith, few, some)

pub spare_kept : (xs ys : List Ranges) (free cap len : ℕ) → excess ys ≤ excess xs → spare_of xs free cap len ≤ spare_of ys free cap len
spare_kept xs ys free cap len le = omega (arith, le)

-- a full block finds a free one where some is spare
pub full_free : (xs : List Ranges) (l : Ranges) (k free cap : ℕ) → k < length (xs ++ l ∷ []) → length (get_or (xs ++ l ∷ []) k []) ≡ 64 → 0 < spare_of xs free cap (length l) → 0 < free
full_free xs l k free cap lt full some =
    elim (cases_lt k (length xs)) [
      | inl first ↦ some_free xs free cap (length l) k first (sym (ap length (get_first xs l k first)) ∙ full) some
      | inr past ↦
          let size : length l ≡ 64 = sym (ap length (get_end xs l k (at_end xs l k lt past))) ∙ full in
          omega (arith, size, some)
    ]

-- a split takes one free block
pub parts_split : (xs ys : List Ranges) (room room' : ℕ) (l m : Ranges) (cap : ℕ) (free less : List Ranges) → AreParts xs room l cap free → length less + 1 ≡ length free → room' + 1 ≡ room
    → All (λ (b : Ranges). b ≡ []) less → length m ≤ 64 → AreParts ys room' m cap less
parts_split xs ys room room' l m cap free less h one taken empty short = record {
  short = short;
  wide = λ some. h.wide (omega (arith, one));
  kept = omega (arith, h.kept, one, taken);
  few = omega (arith, h.few, one);
  empty = empty;
}

pub spare_end_split : (xs : List Ranges) (l : Ranges) (free free' cap : ℕ) → length l ≡ 64 → 64 ≤ cap → free' + 1 ≡ free → spare_of (xs ++ take 32 l ∷ []) free' cap (length (drop 32 l)) ≡ spare_of xs free cap (length l)
spare_end_split xs l free free' cap size wide one =
    omega (arith, excess_append xs (take 32 l ∷ []), length-take-le 32 l (omega (arith, size)), length-drop 32 l, size, wide, one)
