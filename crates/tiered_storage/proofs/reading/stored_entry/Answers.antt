use Rattle.std.proofs.Common.{◌∙◌, Ok, ap, sym, refl}
use Rattle.std.proofs.lemmas.Result.{err_from_is_err_and}
use Rattle.message_meta.specs.Metadata.{Metadata}
use Rattle.state_items.specs.Reading.{Answer}
use Rattle.tiered_storage.proofs.Back.{fails_alike, given_entry, given_meta, stated, stated_in, stored_back}
use Rattle.tiered_storage.proofs.reading.stored_entry.Goals as goal

abbrev given : Metadata → Answer Metadata
given m = Ok m

pub returns-in_err-meta : goal.returns-in_err-meta
returns-in_err-meta c = λ own e h o m p.
    let r = err_from_is_err_and c.from_residual-in_err-meta.result c.from_residual-in_err-meta.ensures.1 in
    let n : Metadata = stated c.args.names.now own e h in
    rw (r.1, r.2) (fails_alike c.in_err-meta.field-0.0 (given n) n (given_entry e) refl (c.in_err-meta.ensures n (stated_in c.args.names.now own e c.args.metadata.now h m)))

pub returns : goal.returns
returns c = λ own e h o m p.
    let same = given_meta c.in_ok-meta.meta (stated c.args.names.now own e h) (c.in_ok-meta.ensures (stated c.args.names.now own e h) (stated_in c.args.names.now own e c.args.metadata.now h m)) in
    ap given_entry (sym (stored_back c.args.names.now own e c.in_ok-read_entry.field-0 c.in_ok-meta.meta c.args.origin c.in_ok-payload.payload h o (c.in_ok-payload.ensures ∙ p) same c.in_ok-read_entry.ensures.is))
