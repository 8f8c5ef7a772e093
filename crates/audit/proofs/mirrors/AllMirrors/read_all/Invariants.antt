use Rattle.std.proofs.Common.{◌≡◌, length}
use Rattle.script_rows.specs.NameWords.{cut_by}
use Rattle.audit.specs.AuditOf.{lines_audited}
use Rattle.audit.specs.Numbers.{AreSized}
use Rattle.audit.proofs.mirrors.AllMirrors.read_all.Given as goal

abbrev pub invariant-loop-line : goal.invariant-loop-line
invariant-loop-line l = record {
  rest : lines_audited l.strictness l.scenario.setup l.self (cut_by 10 l.rest) ≡ lines_audited l.strictness l.scenario.setup l.initial.self (cut_by 10 l.lines);
  sized : AreSized l.scenario.setup l.self;
}

abbrev pub decreases-loop-line : goal.decreases-loop-line
decreases-loop-line l = length (cut_by 10 l.rest)
