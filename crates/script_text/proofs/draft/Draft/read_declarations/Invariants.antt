use Rattle.std.proofs.Common.{◌≡◌, ◌+◌, ◌<◌, ◌≤◌, length}
use Rattle.script_text.specs.Drafts.{so_far}
use Rattle.script_text.specs.Kept.{IsKept}
use Rattle.script_text.specs.Rules.{script_from}
use Rattle.script_text.specs.Script.{no_line}
use Rattle.script_text.specs.Subs.{AreKnown}
use Rattle.script_text.proofs.draft.Draft.read_declarations.Given as goal

abbrev pub invariant-loop-line : goal.invariant-loop-line
invariant-loop-line l = record {
  rest : script_from l.number (so_far l.self.declared) l.lines ≡ script_from 1 no_line l.fn.lines;
  few : l.number + length l.lines ≤ length l.fn.lines + 1;
  some : 0 < l.number;
  kept : IsKept l.number l.self.declared;
  known : AreKnown l.self.declared.setup l.self.names;
}

abbrev pub decreases-loop-line : goal.decreases-loop-line
decreases-loop-line l = length l.lines
