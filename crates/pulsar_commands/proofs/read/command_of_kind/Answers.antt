use Rattle.std.proofs.Common.{refl}
use Rattle.std.proofs.lemmas.Result.{err_from_is_err_and}
use Rattle.pb_fields.specs.Embedded.{WrongFieldsWith}
use Rattle.pulsar_commands.specs.Table.{held_rows}
use Rattle.pulsar_commands.specs.Text.{BodyRight, BodyWrong}
use Rattle.pulsar_commands.specs.Faults.{WrongOfType, body}
use Rattle.pulsar_commands.proofs.Refused.{of_message_wrong}
use Rattle.pulsar_commands.proofs.read.command_of_kind.Goals as goal

pub returns-in_err-held-clause-fault : goal.returns-in_err-held-clause-fault
returns-in_err-held-clause-fault c =
    let k = c.args.kind in
    let fields = c.args.fields.now in
    let p = err_from_is_err_and c.from_residual.result c.from_residual.ensures.1 in
    rw (p.1, p.2) (of_message_wrong (WrongFieldsWith (BodyRight k) (BodyWrong k) (held_rows k) fields) (WrongOfType k fields) _ (λ m h. body m h refl) c.in_err-held.ensures.fault)

pub returns-clause-found : goal.returns-clause-found
returns-clause-found c = c.command_of_held.ensures.found c.args.fields.now c.requires c.in_ok-held.ensures.right (rw c.as_slice.ensures.fields c.in_ok-held.ensures.found)

pub returns-clause-fault : goal.returns-clause-fault
returns-clause-fault c = c.command_of_held.ensures.fault c.args.fields.now c.in_ok-held.ensures.right (rw c.as_slice.ensures.fields c.in_ok-held.ensures.found)
