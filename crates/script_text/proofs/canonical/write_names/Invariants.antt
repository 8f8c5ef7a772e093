use Rattle.std.proofs.Common.{◌≡◌, ◌++◌, drop}
use Rattle.script_text.specs.Canonical.{names_text}
use Rattle.script_text.proofs.canonical.write_names.Given as goal

abbrev pub invariant-loop-name : goal.invariant-loop-name
invariant-loop-name g l = l.out ++ names_text l.head (drop l.name-index l.names) ≡ l.fn.out ++ names_text l.head l.names
