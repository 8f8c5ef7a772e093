use Rattle.std.proofs.Common.{◌≡◌, ◌+◌, ◌≤◌, length}
use Rattle.script_text.specs.Lines.{lines_of}
use Rattle.script_text.specs.Schedule.{schedule_from}
use Rattle.script_text.proofs.schedule.take_lines.Given as goal

abbrev pub invariant-loop-line : goal.invariant-loop-line
invariant-loop-line l = record {
  rest : schedule_from l.number l.names l.steps l.lines ≡ schedule_from 1 l.names l.fn.steps (lines_of l.bytes);
  few : l.number + length l.lines ≤ length l.bytes + 1;
}

abbrev pub decreases-loop-line : goal.decreases-loop-line
decreases-loop-line l = length l.lines
