use Rattle.std.proofs.Common.{refl}
use Rattle.pulsar_commands.specs.Faults.{enumeration}
use Rattle.pulsar_commands.proofs.read.command_of_held.Goals as goal

pub returns-in-Some-clause-fault : goal.returns-in-Some-clause-fault
returns-in-Some-clause-fault c = λ fields right last.
    let first = rw c.choices.ensures at c.in-Some.ensures in
    enumeration c.args.held.now c.in-Some.value right last first refl
