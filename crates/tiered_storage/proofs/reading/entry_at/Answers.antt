use Rattle.std.proofs.lemmas.Result.{err_from_is_err_and}
use Rattle.tiered_storage.proofs.Back.{entry_is, fails_as, no_item, none_is_none, pair_is, parts_are}
use Rattle.tiered_storage.proofs.reading.entry_at.Goals as goal

pub returns-in_err-origin-clause-read : goal.returns-in_err-origin-clause-read
returns-in_err-origin-clause-read c = λ own e more h is.
    let r = err_from_is_err_and c.from_residual.result c.from_residual.ensures.1 in
    rw (r.1, r.2) (no_item c.args.names.now own e c.args.bytes.now more c.in_err-origin.field-0.0 h is c.in_err-origin.ensures)

pub returns-in_err-entry-clause-read : goal.returns-in_err-entry-clause-read
returns-in_err-entry-clause-read c = λ own e more h is.
    let r = err_from_is_err_and c.from_residual-in_err-entry.result c.from_residual-in_err-entry.ensures.1 in
    let p = parts_are c.args.names.now own e c.args.bytes.now more c.in_ok-origin.origin c.in_ok-origin.metadata.now c.in_ok-origin.payload.now c.in_ok-origin.rest.now h is c.in_ok-origin.ensures in
    rw (r.1, r.2) (fails_as c.in_err-entry.field-0.0 e more (c.in_err-entry.ensures own e h p.0.origin p.0.metadata p.0.payload))

pub returns-clause-read : goal.returns-clause-read
returns-clause-read c = λ own e more h is.
    let p = parts_are c.args.names.now own e c.args.bytes.now more c.in_ok-origin.origin c.in_ok-origin.metadata.now c.in_ok-origin.payload.now c.in_ok-origin.rest.now h is c.in_ok-origin.ensures in
    let same = entry_is e c.in_ok-entry.entry (c.in_ok-entry.ensures own e h p.0.origin p.0.metadata p.0.payload) in
    pair_is e c.in_ok-entry.entry c.in_ok-origin.rest.now more same p.1

pub returns-clause-none : goal.returns-clause-none
returns-clause-none c = λ none.
    none_is_none c.args.bytes.now ((c.in_ok-origin.origin, (c.in_ok-origin.metadata.now, c.in_ok-origin.payload.now)), c.in_ok-origin.rest.now) none c.in_ok-origin.ensures
