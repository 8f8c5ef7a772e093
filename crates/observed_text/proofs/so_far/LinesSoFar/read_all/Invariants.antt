use Rattle.std.proofs.Common.{◌≡◌, ◌≤◌, ◌+◌, length}
use Rattle.script_rows.specs.NameWords.{cut_by}
use Rattle.observe.specs.Topics.{entries_in}
use Rattle.observed_text.specs.Observing.{lines_observed}
use Rattle.observed_text.specs.Sizes.{IsSized}
use Rattle.observed_text.proofs.so_far.LinesSoFar.read_all.Given as goal

-- going on from here gives what all lines give; a line has a byte, and one entry at most
abbrev pub invariant-loop-line : goal.invariant-loop-line
invariant-loop-line l = record {
  rest : lines_observed l.scenario.setup l.self l.number (cut_by 10 l.rest) ≡ lines_observed l.scenario.setup l.initial.self l.line (cut_by 10 l.lines);
  sized : IsSized l.scenario.setup l.self;
  number : l.number + length l.rest ≤ l.line + length l.lines;
  few : entries_in l.self.seen.topics + length l.rest ≤ entries_in l.initial.self.seen.topics + length l.lines;
}

abbrev pub decreases-loop-line : goal.decreases-loop-line
decreases-loop-line l = length l.rest
