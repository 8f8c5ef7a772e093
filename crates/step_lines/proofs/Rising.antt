-- The lines that say the steps of a text have numbers that rise by at least one a step.
use Rattle.std.proofs.Common.{ℕ, ◌+◌, ◌≤◌, Bool, true, false, List, [], ◌∷◌, arith}
use Rattle.std.specs.Prelude.{if◌then◌else◌}
use Rattle.script_text.specs.Lines.{TextLine, is_skipped}
use Rattle.script_text.specs.Said.{said_from}
use Rattle.step_lines.specs.Telling.{Rises}

-- those of lines from number k + 1 on, as steps from number n + 1 on
pub said_rise : (n k : ℕ) (ls : List TextLine) → n ≤ k → Rises n (said_from (k + 1) ls)
said_rise n k [] le = tt
said_rise n k (l ∷ ls) le = by (is_skipped l.bytes) (said_rise n (k + 1) ls (omega (arith, le))) (said_rise (n + 1) (k + 1) ls (omega (arith, le)))
  where
    by : (b : Bool) → Rises n (said_from (k + 1 + 1) ls) → Rises (n + 1) (said_from (k + 1 + 1) ls)
        → Rises n (if b then said_from (k + 1 + 1) ls else record { line = k + 1; bytes = l.bytes } ∷ said_from (k + 1 + 1) ls)
    by true skipped more = skipped
    by false skipped more = (omega (arith, le), more)
