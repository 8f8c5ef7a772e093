-- The lines of a script.
use Rattle.std.specs.Prelude.{ℕ, nat_le, ◌==◌, Bool, true, false, ◌&&◌, if◌then◌else◌, List, [], ◌∷◌, length}
use Rattle.std.specs.List.{slice_split}

-- a line: its bytes, and whether a line feed ends it
pub record TextLine : Type 0 where
  pub bytes : List ℕ
  pub ended : Bool

-- the lines of what stands between line feeds; after the last line feed there is a line only where there is a byte
abbrev pub lines_between : List (List ℕ) → List TextLine
lines_between [] = []
lines_between (x ∷ []) = if length x == 0 then [] else record { bytes = x; ended = false } ∷ []
lines_between (x ∷ y ∷ more) = record { bytes = x; ended = true } ∷ lines_between (y ∷ more)

abbrev pub lines_of : List ℕ → List TextLine
lines_of bytes = lines_between (slice_split (λ b. b == 10) bytes)

-- a line that is empty or begins with `#` says nothing and is judged by no rule, but is counted (own)
abbrev pub is_skipped : List ℕ → Bool
is_skipped [] = true
is_skipped (b ∷ bs) = b == 35

-- a space, or what ASCII prints
abbrev pub is_printable : ℕ → Bool
is_printable b = nat_le 32 b && nat_le b 126
