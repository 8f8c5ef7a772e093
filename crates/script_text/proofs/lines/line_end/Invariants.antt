use Rattle.std.proofs.Common.{◌≡◌, ℕ, ◌+◌, ◌==◌, length}
use Rattle.std.specs.List.{position_or_len}
use Rattle.script_text.proofs.lines.line_end.Given as goal

-- none was found in what was looked through
abbrev pub invariant-loop-near : goal.invariant-loop-near
invariant-loop-near l = record {
  none : position_or_len (λ (b : ℕ). b == 10) l.bytes ≡ l.seen + position_or_len (λ (b : ℕ). b == 10) l.rest;
  all : l.seen + length l.rest ≡ length l.bytes;
}

abbrev pub decreases-loop-near : goal.decreases-loop-near
decreases-loop-near l = length l.rest
