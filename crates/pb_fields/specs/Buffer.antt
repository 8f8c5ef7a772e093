-- Bytes in memory that has room for more.
use Rattle.std.specs.Prelude.{◌≡◌, ℕ, ◌+◌, ◌≤◌, List, ◌++◌, length}

-- the bytes, and how many more find room
pub record Filled : Type 0 where
  pub bytes : List ℕ
  pub spare : ℕ

-- More bytes stand after the others, and took no more room than their own.
pub record Puts (old : Filled) (more : List ℕ) (new : Filled) : Type 0 where
  pub bytes : new.bytes ≡ old.bytes ++ more
  pub spare : old.spare ≤ new.spare + length more
