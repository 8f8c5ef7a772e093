use Rattle.std.proofs.Common.{◌≡◌, ◌+◌, ◌<◌, ◌^◌, length}
use Rattle.script_text.specs.Said.{said_from}
use Rattle.script_text.proofs.said_lines.SaidLines.next_said.Given as goal

abbrev pub invariant-loop-line : goal.invariant-loop-line
invariant-loop-line l = record {
  same : said_from (l.self-inside.before + 1) l.self-inside.lines ≡ l.fn.self;
  few : l.self-inside.before + length l.self-inside.lines < 2 ^ 64;
}

abbrev pub decreases-loop-line : goal.decreases-loop-line
decreases-loop-line l = length l.self-inside.lines
