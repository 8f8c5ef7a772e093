-- What an edit of one block makes of the ranges of all blocks.
use Rattle.std.proofs.Common.{◌≡◌, ℕ, zero, suc, ◌+◌, ◌-◌, ◌<◌, ◌≤◌, List, [], ◌∷◌, ◌++◌, length, get_or, take, drop, set, refl, ap, sym, ◌∙◌, arith}
use Rattle.std.specs.List.{All}
use Rattle.std.proofs.Math.Seq.{drop-append-add, take-append-add}
use Rattle.std.proofs.lemmas.List.{append_assoc, drop-append-le, get_or-append-add, get_or_append_left, length-append, length-drop, length-take-le, take-append-drop, take-append-le}
use Rattle.std.proofs.lemmas.List.Elements.{All-cons, All-head, All-tail}
use Rattle.cursor_acks.specs.declared.range.IndexRange.{IndexRange}
use Rattle.cursor_acks.specs.Blocks.{count_before, excess, joined, split_at}

abbrev pub Ranges : Type 0
Ranges = List IndexRange

pub joined_append : (xs ys : List Ranges) → joined (xs ++ ys) ≡ joined xs ++ joined ys
joined_append [] ys = refl
joined_append (x ∷ xs) ys = ap (λ zs. x ++ zs) (joined_append xs ys) ∙ sym (append_assoc x (joined xs) (joined ys))

pub excess_append : (xs ys : List Ranges) → excess (xs ++ ys) ≡ excess xs + excess ys
excess_append [] ys = omega arith
excess_append (x ∷ xs) ys = omega (arith, excess_append xs ys)

-- ---- the ranges of one block among those of all

pub block_range : (bs : List Ranges) (k o : ℕ) (d : IndexRange) → k < length bs → o < length (get_or bs k []) → get_or (joined bs) (count_before bs k + o) d ≡ get_or (get_or bs k []) o d
block_range [] k o d lt w = absurd (omega (arith, lt))
block_range (b ∷ bs) zero o d lt w =
    let same : 0 + o ≡ o = omega arith in
    ap (λ n. get_or (b ++ joined bs) n d) same ∙ get_or_append_left b (joined bs) d o w
block_range (b ∷ bs) (suc k) o d lt w =
    let same : length b + count_before bs k + o ≡ length b + (count_before bs k + o) = omega arith in
    ap (λ n. get_or (b ++ joined bs) n d) same ∙ get_or-append-add b (joined bs) (count_before bs k + o) d ∙ block_range bs k o d (omega (arith, lt)) w

pub block_within : (bs : List Ranges) (k o : ℕ) → k < length bs → o ≤ length (get_or bs k []) → count_before bs k + o ≤ length (joined bs)
block_within [] k o lt w = absurd (omega (arith, lt))
block_within (b ∷ bs) zero o lt w = omega (arith, length-append b (joined bs), w)
block_within (b ∷ bs) (suc k) o lt w = omega (arith, length-append b (joined bs), block_within bs k o (omega (arith, lt)) w)

pub next_block : (bs : List Ranges) (k : ℕ) → k < length bs → count_before bs (suc k) ≡ count_before bs k + length (get_or bs k [])
next_block [] k lt = absurd (omega (arith, lt))
next_block (b ∷ []) zero lt = omega arith
next_block (b ∷ c ∷ bs) zero lt = omega arith
next_block (b ∷ bs) (suc k) lt = omega (arith, next_block bs k (omega (arith, lt)))

-- ---- an edit of one block

in_block : (b j xs : Ranges) (o p : ℕ) → o ≤ length b → p ≤ length b → (take o b ++ (xs ++ drop p b)) ++ j ≡ take o (b ++ j) ++ (xs ++ drop p (b ++ j))
in_block b j xs o p low high =
    rw (take-append-le o b j low, drop-append-le p b j high)
    (append_assoc (take o b) (xs ++ drop p b) j ∙ ap (λ zs. take o b ++ zs) (append_assoc xs (drop p b) j))

in_rest : (b j xs z : Ranges) (n m : ℕ) → z ≡ take n j ++ (xs ++ drop m j) → b ++ z ≡ take (length b + n) (b ++ j) ++ (xs ++ drop (length b + m) (b ++ j))
in_rest b j xs z n m e =
    rw (take-append-add b j n, drop-append-add b j m)
    (ap (λ zs. b ++ zs) e ∙ sym (append_assoc b (take n j) (xs ++ drop m j)))

at_counts : (j xs : Ranges) (n n' m m' : ℕ) → n ≡ n' → m ≡ m' → take n j ++ (xs ++ drop m j) ≡ take n' j ++ (xs ++ drop m' j)
at_counts j xs n n' m m' e f = ap (λ a. take a j ++ (xs ++ drop m j)) e ∙ ap (λ a. take n' j ++ (xs ++ drop a j)) f

pub edit_joined : (bs : List Ranges) (k o p : ℕ) (xs : Ranges) → k < length bs → o ≤ length (get_or bs k []) → p ≤ length (get_or bs k [])
    → joined (set bs k (take o (get_or bs k []) ++ (xs ++ drop p (get_or bs k [])))) ≡ take (count_before bs k + o) (joined bs) ++ (xs ++ drop (count_before bs k + p) (joined bs))
edit_joined [] k o p xs lt low high = absurd (omega (arith, lt))
edit_joined (b ∷ bs) zero o p xs lt low high = in_block b (joined bs) xs o p low high ∙ at_counts (b ++ joined bs) xs o (0 + o) p (0 + p) (omega arith) (omega arith)
edit_joined (b ∷ bs) (suc k) o p xs lt low high =
    let n = count_before bs k in
    in_rest b (joined bs) xs (joined (set bs k (take o (get_or bs k []) ++ (xs ++ drop p (get_or bs k []))))) (n + o) (n + p) (edit_joined bs k o p xs (omega (arith, lt)) low high)
    ∙ at_counts (b ++ joined bs) xs (length b + (n + o)) (length b + n + o) (length b + (n + p)) (length b + n + p) (omega arith) (omega arith)

drop_from : (bs : List Ranges) (k o : ℕ) → k < length bs → o ≤ length (get_or bs k []) → joined (drop o (get_or bs k []) ∷ drop (suc k) bs) ≡ drop (count_before bs k + o) (joined bs)
drop_from [] k o lt w = absurd (omega (arith, lt))
drop_from (b ∷ bs) zero o lt w =
    let same : o ≡ 0 + o = omega arith in
    sym (drop-append-le o b (joined bs) w) ∙ ap (λ n. drop n (b ++ joined bs)) same
drop_from (b ∷ bs) (suc k) o lt w =
    let same : length b + (count_before bs k + o) ≡ length b + count_before bs k + o = omega arith in
    drop_from bs k o (omega (arith, lt)) w ∙ sym (drop-append-add b (joined bs) (count_before bs k + o)) ∙ ap (λ n. drop n (b ++ joined bs)) same

pub drop_joined : (bs : List Ranges) (k o : ℕ) → k < length bs → o ≤ length (get_or bs k []) → joined (drop o (get_or bs k []) ∷ drop (k + 1) bs) ≡ drop (count_before bs k + o) (joined bs)
drop_joined bs k o lt w =
    let next : k + 1 ≡ suc k = omega arith in
    ap (λ n. joined (drop o (get_or bs k []) ∷ drop n bs)) next ∙ drop_from bs k o lt w

-- a block of the same length in range_index of one moves no range_index
pub same_places : (bs : List Ranges) (k : ℕ) (b : Ranges) (j : ℕ) → length b ≡ length (get_or bs k []) → (count_before (set bs k b) j ≡ count_before bs j) × (length (get_or (set bs k b) j []) ≡ length (get_or bs j []))
same_places [] k b j e = (refl, refl)
same_places (c ∷ bs) zero b zero e = (refl, e)
same_places (c ∷ bs) zero b (suc j) e = (omega (arith, e), refl)
same_places (c ∷ bs) (suc k) b zero e = (refl, refl)
same_places (c ∷ bs) (suc k) b (suc j) e =
    let tail = same_places bs k b j e in
    (omega (arith, tail.0), tail.1)

-- ---- the excess

pub excess_set : (bs : List Ranges) (k : ℕ) (b : Ranges) → k < length bs → excess (set bs k b) + (length (get_or bs k []) - 32) ≡ excess bs + (length b - 32)
excess_set [] k b lt = absurd (omega (arith, lt))
excess_set (c ∷ bs) zero b lt = omega arith
excess_set (c ∷ bs) (suc k) b lt = omega (arith, excess_set bs k b (omega (arith, lt)))

pub excess_at : (bs : List Ranges) (k : ℕ) → k < length bs → length (get_or bs k []) - 32 ≤ excess bs
excess_at [] k lt = absurd (omega (arith, lt))
excess_at (c ∷ bs) zero lt = omega arith
excess_at (c ∷ bs) (suc k) lt = omega (arith, excess_at bs k (omega (arith, lt)))

pub excess_drop : (bs : List Ranges) (k : ℕ) → excess (take k bs) + excess (drop k bs) ≡ excess bs
excess_drop bs zero = omega arith
excess_drop [] (suc k) = omega arith
excess_drop (c ∷ bs) (suc k) = omega (arith, excess_drop bs k)

-- ---- a split

pub split_joined : (bs : List Ranges) (k : ℕ) → k < length bs → joined (split_at bs k) ≡ joined bs
split_joined [] k lt = absurd (omega (arith, lt))
split_joined (b ∷ bs) zero lt = sym (append_assoc (take 32 b) (drop 32 b) (joined bs)) ∙ ap (λ zs. zs ++ joined bs) (take-append-drop 32 b)
split_joined (b ∷ bs) (suc k) lt = ap (λ zs. b ++ zs) (split_joined bs k (omega (arith, lt)))

pub split_excess : (bs : List Ranges) (k : ℕ) → k < length bs → length (get_or bs k []) ≡ 64 → excess (split_at bs k) + 32 ≡ excess bs
split_excess [] k lt e = absurd (omega (arith, lt))
split_excess (b ∷ bs) zero lt e = omega (arith, length-take-le 32 b (omega (arith, e)), length-drop 32 b, e)
split_excess (b ∷ bs) (suc k) lt e = omega (arith, split_excess bs k (omega (arith, lt)) e)

pub split_length : (bs : List Ranges) (k : ℕ) → k < length bs → length (split_at bs k) ≡ length bs + 1
split_length [] k lt = absurd (omega (arith, lt))
split_length (b ∷ bs) zero lt = omega arith
split_length (b ∷ bs) (suc k) lt = omega (arith, split_length bs k (omega (arith, lt)))

pub split_lower : (bs : List Ranges) (k : ℕ) → k < length bs → (count_before (split_at bs k) k ≡ count_before bs k) × (get_or (split_at bs k) k [] ≡ take 32 (get_or bs k []))
split_lower [] k lt = absurd (omega (arith, lt))
split_lower (b ∷ bs) zero lt = (refl, refl)
split_lower (b ∷ bs) (suc k) lt =
    let tail = split_lower bs k (omega (arith, lt)) in
    (omega (arith, tail.0), tail.1)

pub split_upper : (bs : List Ranges) (k : ℕ) → k < length bs → 32 ≤ length (get_or bs k []) → (count_before (split_at bs k) (suc k) ≡ count_before bs k + 32) × (get_or (split_at bs k) (suc k) [] ≡ drop 32 (get_or bs k []))
split_upper [] k lt w = absurd (omega (arith, lt))
split_upper (b ∷ bs) zero lt w = (omega (arith, length-take-le 32 b w), refl)
split_upper (b ∷ bs) (suc k) lt w =
    let tail = split_upper bs k (omega (arith, lt)) w in
    (omega (arith, tail.0), tail.1)

pub split_some : (bs : List Ranges) (k : ℕ) → k < length bs → length (get_or bs k []) ≡ 64 → All (λ (b : Ranges). 0 < length b) bs → All (λ (b : Ranges). 0 < length b) (split_at bs k)
split_some [] k lt e h = absurd (omega (arith, lt))
split_some (b ∷ bs) zero lt e h =
    All-cons (λ (c : Ranges). 0 < length c) (take 32 b) (drop 32 b ∷ bs) (omega (arith, length-take-le 32 b (omega (arith, e)), e))
    (All-cons (λ (c : Ranges). 0 < length c) (drop 32 b) bs (omega (arith, length-drop 32 b, e)) (All-tail (λ (c : Ranges). 0 < length c) b bs h))
split_some (b ∷ bs) (suc k) lt e h =
    All-cons (λ (c : Ranges). 0 < length c) b (split_at bs k) (All-head (λ (c : Ranges). 0 < length c) b bs h) (split_some bs k (omega (arith, lt)) e (All-tail (λ (c : Ranges). 0 < length c) b bs h))

-- a half put before what is left of its block
pub split_is : (bs : List Ranges) (k : ℕ) (lower upper : Ranges) → k < length bs → take k (set bs k upper) ++ lower ∷ drop k (set bs k upper) ≡ take k bs ++ lower ∷ upper ∷ drop (suc k) bs
split_is [] k lower upper lt = absurd (omega (arith, lt))
split_is (b ∷ bs) zero lower upper lt = refl
split_is (b ∷ bs) (suc k) lower upper lt = ap (λ zs. b ∷ zs) (split_is bs k lower upper (omega (arith, lt)))

-- the last block split
pub split_last : (bs : List Ranges) (b : Ranges) → split_at (bs ++ b ∷ []) (length bs) ≡ (bs ++ take 32 b ∷ []) ++ drop 32 b ∷ []
split_last [] b = refl
split_last (c ∷ bs) b = ap (λ zs. c ∷ zs) (split_last bs b)

-- one of the blocks before the last split
pub split_before : (bs : List Ranges) (b : Ranges) (k : ℕ) → k < length bs → split_at (bs ++ b ∷ []) k ≡ split_at bs k ++ b ∷ []
split_before [] b k lt = absurd (omega (arith, lt))
split_before (c ∷ bs) b zero lt = refl
split_before (c ∷ bs) b (suc k) lt = ap (λ zs. c ∷ zs) (split_before bs b k (omega (arith, lt)))
