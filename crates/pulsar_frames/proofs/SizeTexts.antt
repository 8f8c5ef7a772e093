-- Sizes in four bytes.
use Rattle.std.proofs.Common.{◌≡◌, ℕ, ◌<◌, ◌≤◌, ◌^◌, List, ◌++◌, length, get_or, take, drop, refl, sym, ap, ◌∙◌, append_assoc, arith, inl, inr}
use Rattle.std.specs.Int.{w32, from_be_bytes}
use Rattle.std.proofs.lemmas.Bool.{cases_lt}
use Rattle.std.proofs.lemmas.List.{take-append-drop, length-take, get_or-take, get_or_past}
use Rattle.std.proofs.lemmas.Nat.{be_bytes_4, from_be_bytes-to_be_bytes_4}
use Rattle.pulsar_frames.specs.Layout.{size, sized}

pub length-size : (n : ℕ) → length (size n) ≡ 4
unfolding size
length-size n = refl

pub size_one : (m n : ℕ) → m < 2 ^ 32 → n < 2 ^ 32 → size m ≡ size n → m ≡ n
unfolding size
size_one m n h k e = sym (from_be_bytes-to_be_bytes_4 m h) ∙ ap (λ (bs : List ℕ). from_be_bytes w32 bs) e ∙ from_be_bytes-to_be_bytes_4 n k

are_bytes : (n : ℕ) (bs : List ℕ) → ((i : ℕ) → get_or bs i 0 < 256) → (i : ℕ) → get_or (take n bs) i 0 < 256
are_bytes n bs h i =
    elim (cases_lt i n) [
      | inl lt ↦ rw (get_or-take n bs i 0 lt) (h i)
      | inr le ↦ rw (get_or_past (take n bs) i 0 (omega (arith, length-take n bs))) (omega arith)
    ]

-- the number in the first four bytes
pub size_front : (bs : List ℕ) → 4 ≤ length bs → ((i : ℕ) → get_or bs i 0 < 256) → bs ≡ size (from_be_bytes w32 (take 4 bs)) ++ drop 4 bs
unfolding size
size_front bs long are = sym (ap (λ (xs : List ℕ). xs ++ drop 4 bs) (be_bytes_4 (take 4 bs) (from_be_bytes w32 (take 4 bs)) (omega (arith, length-take 4 bs)) (are_bytes 4 bs are) refl) ∙ take-append-drop 4 bs)

-- so many bytes after their number
pub sized_split : (bs after : List ℕ) (n : ℕ) → bs ≡ size n ++ after → n ≤ length after → bs ≡ sized (take n after) ++ drop n after
sized_split bs after n e le =
    let len : length (take n after) ≡ n = omega (arith, length-take n after) in
    rw len (e ∙ ap (λ (xs : List ℕ). size n ++ xs) (sym (take-append-drop n after)) ∙ sym (append_assoc (size n) (take n after) (drop n after)))
