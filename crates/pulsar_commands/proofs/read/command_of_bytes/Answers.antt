use Rattle.pulsar_commands.specs.Text.{usual}
use Rattle.pulsar_commands.specs.Faults.{WrongOfType, WrongCommand, of_type}
use Rattle.pulsar_commands.proofs.Refused.{err_weaker}
use Rattle.pulsar_commands.proofs.Usual.{usual_type}
use Rattle.pulsar_commands.proofs.read.command_of_bytes.Goals as goal

pub returns-in-Some-clause-fault : goal.returns-in-Some-clause-fault
returns-in-Some-clause-fault c =
    let bytes = c.args.bytes.now in
    let k = c.in-Some.kind in
    let content = c.in-Some.content.now in
    err_weaker (WrongOfType k (usual k content)) (WrongCommand bytes) c.command_of_content.result (λ e h. of_type (usual k content) k c.in-Some.ensures (usual_type k content) h) c.command_of_content.ensures.fault
