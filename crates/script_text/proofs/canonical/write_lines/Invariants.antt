use Rattle.std.proofs.Common.{◌≡◌, ◌++◌, drop}
use Rattle.script_text.specs.Canonical.{lines_text}
use Rattle.script_text.proofs.canonical.write_lines.Given as goal

abbrev pub invariant-loop-line : goal.invariant-loop-line
invariant-loop-line l =
    l.out ++ lines_text l.clusters l.client.name (drop l.line-index l.client.lines) ≡ l.fn.out ++ lines_text l.clusters l.client.name l.client.lines
