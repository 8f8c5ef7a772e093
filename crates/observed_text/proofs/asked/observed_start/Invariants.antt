use Rattle.std.proofs.Common.{◌≡◌, ◌≤◌, ◌+◌, ◌-◌, length}
use Rattle.script_rows.specs.NameWords.{cut_by}
use Rattle.observed_text.specs.Starts.{observed_from, observed_start}
use Rattle.observed_text.proofs.asked.observed_start.Given as goal

-- what is left begins where the whole does
abbrev pub invariant-loop-line : goal.invariant-loop-line
invariant-loop-line l = record {
  within : length l.rest ≤ length l.input;
  starts : length l.input - length l.rest + observed_from (cut_by 10 l.rest) ≡ observed_start l.input;
}

abbrev pub decreases-loop-line : goal.decreases-loop-line
decreases-loop-line l = length l.rest
