use Rattle.std.proofs.Common.{◌≡◌, ◌++◌, drop}
use Rattle.observed_text.specs.Findings.{finding_lines}
use Rattle.observed_text.proofs.answer.add_lines.Given as goal

abbrev pub invariant-loop-finding : goal.invariant-loop-finding
invariant-loop-finding l =
    l.text ++ finding_lines l.scenario.setup (drop l.finding-index l.findings) ≡ l.initial.text ++ finding_lines l.scenario.setup l.findings
