use Rattle.std.proofs.Common.{take}
use Rattle.pulsar_commands.specs.Part as part
use Rattle.pulsar_commands.specs.Canonical.{WritesPart}
use Rattle.pulsar_commands.proofs.ids.append_ids.Given as goal

abbrev pub invariant-loop-position : goal.invariant-loop-position
invariant-loop-position l = WritesPart l.fn.out (part.ids l.number (take l.position-index l.positions)) l.out
