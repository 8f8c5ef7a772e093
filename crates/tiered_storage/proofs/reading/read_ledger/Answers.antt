use Rattle.std.proofs.lemmas.Result.{err_from_is_err_and}
use Rattle.std.proofs.Common.{[], inl, inr, length}
use Rattle.std.specs.List.{flat_map}
use Rattle.tiered_storage.specs.Texts.{item_text}
use Rattle.tiered_storage.proofs.Loop.{counted_after, counted_is, counted_more, miscounted, no_count, with_none}
use Rattle.tiered_storage.proofs.reading.read_ledger.Goals as goal

pub returns-in_err-count-clause-read : goal.returns-in_err-count-clause-read
returns-in_err-count-clause-read c = λ own es are few is.
    let r = err_from_is_err_and c.from_residual.result c.from_residual.ensures.1 in
    rw (r.1, r.2) (no_count c.args.names.now own es c.args.bytes.now c.in_err-count.field-0.0 few is c.in_err-count.ensures.read)

pub returns-clause-read : goal.returns-clause-read
returns-clause-read c = λ own es are few is.
    let p = counted_is c.args.names.now own es c.args.bytes.now c.in_ok-count.count c.in_ok-count.rest.now few is c.in_ok-count.ensures.read in
    c.counted_entries.ensures.read own es are p.0 p.1

pub returns-clause-after : goal.returns-clause-after
returns-clause-after c = λ own es more are few some is.
    let p = counted_after c.args.names.now own es more c.args.bytes.now c.in_ok-count.count c.in_ok-count.rest.now few is c.in_ok-count.ensures.read in
    c.counted_entries.ensures.refused own es more are (inr (inl (p.0, some))) p.1

pub returns-clause-count : goal.returns-clause-count
returns-clause-count c = λ own es n are few other is.
    let p = counted_more n c.args.bytes.now (flat_map (item_text c.args.names.now own) es) c.in_ok-count.count c.in_ok-count.rest.now few is c.in_ok-count.ensures.read in
    c.counted_entries.ensures.refused own es [] are (miscounted (length es) n c.in_ok-count.count other p.0) (with_none c.args.names.now own es c.in_ok-count.rest.now p.1)
