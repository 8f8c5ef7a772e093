use Rattle.std.proofs.Common.{◌≡◌, take}
use Rattle.trace_lines.proofs.names.add_names.Given as goal

abbrev pub invariant-loop-name : goal.invariant-loop-name
invariant-loop-name g l = l.table ≡ take l.name-index l.names
