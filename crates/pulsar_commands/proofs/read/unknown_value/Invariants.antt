use Rattle.std.proofs.Common.{take}
use Rattle.std.specs.List.{AllByRecursion}
use Rattle.pulsar_commands.specs.Table.{IsKnown}
use Rattle.pulsar_commands.proofs.read.unknown_value.Given as goal

abbrev pub invariant-loop-choice : goal.invariant-loop-choice
invariant-loop-choice l = AllByRecursion (IsKnown l.fields) (take l.choice-index l.choices)
