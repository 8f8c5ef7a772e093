use Rattle.std.proofs.lemmas.Result.{err_from_is_err_and}
use Rattle.state_nodes.proofs.EntryExits.{heading_stops, next_told, payload_told, text_stops}
use Rattle.state_nodes.proofs.entries.entry_at.Goals as goal

pub returns-in_err-text-clause-told : goal.returns-in_err-text-clause-told
returns-in_err-text-clause-told c =
    let p = err_from_is_err_and c.from_residual.result c.from_residual.ensures.1 in
    rw (p.1, p.2) (text_stops c.args.names.now c.args.before.now.own c.args.before.now.entries c.args.bytes.now c.in_err-text.field-0.0 c.in_err-text.ensures)

pub returns-in_err-heading-clause-told : goal.returns-in_err-heading-clause-told
returns-in_err-heading-clause-told c =
    let p = err_from_is_err_and c.from_residual-in_err-heading.result c.from_residual-in_err-heading.ensures.1 in
    rw (p.1, p.2) (heading_stops c.args.names.now c.args.before.now.own c.args.before.now.entries c.args.bytes.now c.in_ok-text.text.now c.in_ok-text.rest.now c.in_err-heading.field-0.0 c.in_ok-text.ensures c.in_err-heading.ensures.told)

pub returns-clause-told : goal.returns-clause-told
returns-clause-told c =
    payload_told c.args.names.now c.args.before.now.own c.args.before.now.entries c.args.bytes.now c.in_ok-text.text.now c.in_ok-text.rest.now c.in_ok-heading.heading _ c.payload_at.result c.in_ok-text.ensures c.in_ok-heading.ensures.told c.payload_at.ensures.told

pub returns-clause-next : goal.returns-clause-next
returns-clause-next c =
    next_told c.args.before.now.own c.args.before.now.entries c.in_ok-heading.heading c.payload_at.result c.in_ok-heading.ensures.next c.payload_at.ensures.ident
