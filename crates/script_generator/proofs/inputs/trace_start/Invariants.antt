use Rattle.std.proofs.Common.{◌≡◌, ◌≤◌, ◌+◌, ◌-◌, drop, length}
use Rattle.script_rows.specs.NameWords.{cut_by}
use Rattle.script_generator.specs.Starts.{trace_from, trace_start}
use Rattle.script_generator.proofs.inputs.trace_start.Given as goal

-- what is after so many bytes begins where the whole does
abbrev pub invariant-loop-end : goal.invariant-loop-end
invariant-loop-end l = record {
  within : l.at ≤ length l.input;
  starts : l.at + trace_from (cut_by 10 (drop l.at l.input)) ≡ trace_start l.input;
}

abbrev pub decreases-loop-end : goal.decreases-loop-end
decreases-loop-end l = length l.input - l.at
