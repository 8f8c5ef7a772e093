-- The lines of a text that say its steps, as they stand there.
use Rattle.std.specs.Prelude.{ℕ, ◌+◌, ◌-◌, if◌then◌else◌, List, [], ◌∷◌, drop, Option, Some, None}
use Rattle.script_text.specs.Lines.{TextLine, is_skipped, lines_of}

-- a step's line: its number in its text, from 1, and its bytes
pub record Said : Type 0 where
  pub line : ℕ
  pub bytes : List ℕ

-- those of lines that say nothing else, the first of which has the number n
abbrev pub said_from : ℕ → List TextLine → List Said
said_from n [] = []
said_from n (l ∷ ls) = if is_skipped l.bytes then said_from (n + 1) ls else record { line = n; bytes = l.bytes } ∷ said_from (n + 1) ls

-- those of a script whose first step stands in that line, where it has one
abbrev pub said_in : Option ℕ → List ℕ → List Said
said_in None bytes = []
said_in (Some first) bytes = said_from first (drop (first - 1) (lines_of bytes))
