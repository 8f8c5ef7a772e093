-- Varints (Protocol Buffers encoding, "Base 128 Varints").
use Rattle.std.specs.Prelude.{◌≡◌, ℕ, ◌+◌, ◌*◌, ◌^◌, ◌<◌, ◌≤◌, List, [], ◌∷◌, ◌++◌, length}

-- Groups of seven bits, a byte each, the least group first. A byte below 128 is the last and stands for itself.
-- One from 128 on has its high bit set, so that another follows: it stands for its low seven bits, and the bytes
-- after it for the rest. The rest may be 0, so needless groups of zero may stand at the end.
pub data IsGroups : List ℕ → ℕ → Type 0 where
  last : {b n : ℕ} → b < 128 → n ≡ b → IsGroups (b ∷ []) n
  more : {b n high : ℕ} {bs : List ℕ} → 128 ≤ b → b < 256 → n + 128 ≡ b + 128 * high → IsGroups bs high → IsGroups (b ∷ bs) n

-- A varint has at most ten bytes, and its number fits 64 bits.
pub record IsVarint (text : List ℕ) (n : ℕ) : Type 0 where
  pub groups : IsGroups text n
  pub at_most_ten : length text ≤ 10
  pub fits : n < 2 ^ 64

-- A varint of n stands at the front of the bytes, and rest comes after it.
pub record TakesVarint (bytes : List ℕ) (n : ℕ) (rest : List ℕ) : Type 0 where
  pub text : List ℕ
  pub parts : bytes ≡ text ++ rest
  pub varint : IsVarint text n
