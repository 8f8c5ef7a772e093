-- Ranges in blocks of a bounded size, so that a change moves the ranges of one block alone.
use Rattle.std.specs.Prelude.{◌≡◌, ℕ, zero, suc, ◌+◌, ◌-◌, ◌*◌, ◌≤◌, ◌<◌, ◌^◌, min, List, [], ◌∷◌, ◌++◌, length, get_or, take, drop}
use Rattle.std.specs.List.{All}
use Rattle.cursor_acks.specs.declared.range.IndexRange.{IndexRange}
use Rattle.cursor_acks.specs.declared.range_index.RangeIndex.{RangeIndex}

-- blocks in order, and how many more of them find room
pub record BlockList : Type 0 where
  pub list : List (List IndexRange)
  pub room : ℕ

-- the ranges of blocks, block after block
abbrev pub joined : List (List IndexRange) → List IndexRange
joined [] = []
joined (b ∷ bs) = b ++ joined bs

-- how many ranges the first k blocks have
abbrev pub count_before : List (List IndexRange) → ℕ → ℕ
count_before [] k = 0
count_before (b ∷ bs) zero = 0
count_before (b ∷ bs) (suc k) = length b + count_before bs k

-- how many ranges stand before a range_index
abbrev pub flat : List (List IndexRange) → RangeIndex → ℕ
flat bs p = count_before bs p.block + p.offset

-- what is read where no range stands
abbrev pub no_range : IndexRange
no_range = record { first = 0; last = 0 }

-- the last index of the last range of a block; 0 where it has none
abbrev pub end_of : List IndexRange → ℕ
end_of b = (get_or b (length b - 1) no_range).last

-- how many ranges a block has room for, and each half of a full one
abbrev pub most_ranges : ℕ
most_ranges = 64

abbrev pub half_ranges : ℕ
half_ranges = 32

-- how many ranges blocks have above half of what they have room for
abbrev pub excess : List (List IndexRange) → ℕ
excess [] = 0
excess (b ∷ bs) = length b - half_ranges + excess bs

-- the blocks before the last one: none is empty, and their excess is counted
pub record AreCounted (bs : List (List IndexRange)) (over : ℕ) : Type 0 where
  pub some : All (λ (b : List IndexRange). 0 < length b) bs
  pub counted : over ≡ excess bs

-- a range_index where a range can be put in
pub record IsSlot (bs : List (List IndexRange)) (p : RangeIndex) : Type 0 where
  pub block : p.block < length bs
  pub offset : p.offset ≤ length (get_or bs p.block [])

-- a range_index where a range stands
pub record IsRange (bs : List (List IndexRange)) (p : RangeIndex) : Type 0 where
  pub block : p.block < length bs
  pub offset : p.offset < length (get_or bs p.block [])

-- a range_index where a range stands, or the end of the last block
pub record IsFound (bs : List (List IndexRange)) (p : RangeIndex) : Type 0 where
  pub slot : IsSlot bs p
  pub full : p.block + 1 < length bs → p.offset < length (get_or bs p.block [])

-- a block in two halves
abbrev pub split_at : List (List IndexRange) → ℕ → List (List IndexRange)
split_at bs k = take k bs ++ take half_ranges (get_or bs k []) ∷ drop half_ranges (get_or bs k []) ∷ drop (suc k) bs

-- how many more ranges the last block has room for, counted up to half a block
abbrev pub last_room : ℕ → ℕ → ℕ
last_room cap len = min (min cap most_ranges - len) half_ranges

-- how many more ranges need no memory. A free block serves half of them: one that is split leaves two halves, each with
-- room for a half. What blocks have above their half is used up.
abbrev pub spare_of : List (List IndexRange) → ℕ → ℕ → ℕ → ℕ
spare_of before free cap len = half_ranges * free + last_room cap len - excess before

-- the parts of a list of ranges: the blocks before the last, the last with its capacity, and free blocks, for each of which
-- there is room among the blocks before the last
pub record AreParts (before : List (List IndexRange)) (room : ℕ) (last : List IndexRange) (cap : ℕ) (free : List (List IndexRange)) : Type 0 where
  pub short : length last ≤ most_ranges
  pub wide : 0 < length before + length free → most_ranges ≤ cap
  pub kept : length free ≤ room
  pub few : length free < 2 ^ 32
  pub empty : All (λ (b : List IndexRange). b ≡ []) free
