use Rattle.std.proofs.Common.{◌≡◌, ◌+◌, ◌≤◌, All, length}
use Rattle.script_text.specs.Drafts.{IsLate, moved_on, so_far}
use Rattle.script_text.specs.Rules.{script_from}
use Rattle.script_text.specs.Recent.{Means, among_events}
use Rattle.script_text.specs.Scenario.{IsStep}
use Rattle.script_text.proofs.declarations.Declarations.read_noting.Given as goal

abbrev pub invariant-loop-line : goal.invariant-loop-line
invariant-loop-line l = record {
  rest : script_from l.number (record { declared = moved_on l.self l.progress; steps = l.steps }) l.lines ≡ script_from l.first (so_far l.self) l.fn.lines;
  few : l.number + length l.lines ≤ l.first + length l.fn.lines;
  late : IsLate l.progress l.lines;
  begun : l.progress.begun ≡ l.self.progress.begun;
  known : All (IsStep l.self.setup) l.steps.list;
  recent : All (Means (among_events l.progress) l.names) l.recent;
}

abbrev pub decreases-loop-line : goal.decreases-loop-line
decreases-loop-line l = length l.lines
