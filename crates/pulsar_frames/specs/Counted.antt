-- Sizes that have 64 bits.
use Rattle.std.specs.Prelude.{ℕ, ◌-◌, ◌^◌, min}

-- a size, or the greatest number of 64 bits where it has more: so much is in no memory
abbrev pub counted : ℕ → ℕ
counted n = min n (2 ^ 64 - 1)
