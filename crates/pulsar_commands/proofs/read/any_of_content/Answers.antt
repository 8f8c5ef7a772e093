use Rattle.std.proofs.Common.{refl}
use Rattle.std.proofs.lemmas.Result.{err_from_is_err_and}
use Rattle.pb_fields.specs.Embedded.{WrongMessageWith}
use Rattle.pulsar_commands.specs.Table.{rows_of}
use Rattle.pulsar_commands.specs.Text.{IdRight, IdWrong, usual}
use Rattle.pulsar_commands.specs.Faults.{WrongOfType, body}
use Rattle.pulsar_commands.proofs.Refused.{of_message_wrong}
use Rattle.pulsar_commands.proofs.Usual.{usual_type, usual_right, usual_last, usual_wrong}
use Rattle.pulsar_commands.proofs.read.any_of_content.Goals as goal

pub returns-in_err-held-clause-fault : goal.returns-in_err-held-clause-fault
returns-in_err-held-clause-fault c =
    let k = c.args.kind in
    let content = c.args.content.now in
    let p = err_from_is_err_and c.from_residual.result c.from_residual.ensures.1 in
    let wrong = rw c.rows.ensures at c.in_err-held.ensures.fault in
    rw (p.1, p.2) (of_message_wrong (WrongMessageWith IdRight IdWrong (rows_of k) content) (WrongOfType k (usual k content)) _ (λ m h. body m (usual_wrong k content m h) refl) wrong)

pub returns-clause-found : goal.returns-clause-found
returns-clause-found c =
    let k = c.args.kind in
    let content = c.args.content.now in
    let held = c.in_ok-held.held in
    let read = rw c.rows.ensures at c.in_ok-held.ensures.found in
    c.command_of_held.ensures.found (usual k content) (usual_type k content) (usual_right k content held read.0 read.1) (rw c.as_slice.ensures.fields (usual_last k content held read.0))

pub returns-clause-fault : goal.returns-clause-fault
returns-clause-fault c =
    let k = c.args.kind in
    let content = c.args.content.now in
    let held = c.in_ok-held.held in
    let read = rw c.rows.ensures at c.in_ok-held.ensures.found in
    c.command_of_held.ensures.fault (usual k content) (usual_right k content held read.0 read.1) (rw c.as_slice.ensures.fields (usual_last k content held read.0))
