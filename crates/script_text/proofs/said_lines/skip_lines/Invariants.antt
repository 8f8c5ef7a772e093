use Rattle.std.proofs.Common.{◌≡◌, ◌+◌, ◌-◌, ◌≤◌, drop, length}
use Rattle.script_text.proofs.said_lines.skip_lines.Given as goal

abbrev pub invariant-loop-before : goal.invariant-loop-before
invariant-loop-before l = record {
  rest : l.lines ≡ drop l.before l.fn.lines;
  counted : l.before + length l.lines ≤ length l.fn.lines;
  within : l.before ≤ l.count;
}

abbrev pub decreases-loop-before : goal.decreases-loop-before
decreases-loop-before l = l.count - l.before
