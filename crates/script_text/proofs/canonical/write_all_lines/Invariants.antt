use Rattle.std.proofs.Common.{◌≡◌, ◌++◌, drop}
use Rattle.script_text.specs.Canonical.{all_lines_text}
use Rattle.script_text.proofs.canonical.write_all_lines.Given as goal

abbrev pub invariant-loop-client : goal.invariant-loop-client
invariant-loop-client l =
    l.out ++ all_lines_text l.clusters (drop l.client-index l.clients) ≡ l.fn.out ++ all_lines_text l.clusters l.clients
