use Rattle.std.proofs.Common.{◌≡◌, ◌∙◌, arith, false, get_or, sym, true}
use Rattle.std.specs.Prelude.{slice_get}
use Rattle.std.proofs.lemmas.List.{get_or_default}
use Rattle.cursor_acks.specs.declared.range.IndexRange.{IndexRange}
use Rattle.cursor_acks.specs.Acks.{from_to}
use Rattle.audit.specs.Runs.{all_acked_by, is_acked_at}
use Rattle.audit.proofs.EntryAcks.{range_fails, range_holds}
use Rattle.audit.proofs.runs.Runs.pass.Goals as goal

abbrev empty : IndexRange
empty = record { first = 0; last = 0 }

pub returns-then-not-may_ack_range : goal.returns-then-not-may_ack_range
returns-then-not-may_ack_range c =
    let rs = c.args.ranges.now in let i = c.loop-range.range-index in let lt = c.loop-range-test.true in
    let w = c.args.self.now.what in let es = c.args.entries.now in
    let r : IndexRange = get_or rs i empty in
    let is : r ≡ get_or rs i r = get_or_default rs i empty r lt in
    let fails : all_acked_by w es (from_to r.first r.last) ≡ false = grind (arith, c.if-not-may_ack_range.true, c.may_ack_range.ensures) in
    sym (range_fails (λ k. is_acked_at w (slice_get es k)) rs i r lt is fails) ∙ c.loop-range.invariant

pub loop-range-preserved : goal.loop-range-preserved
loop-range-preserved c =
    let rs = c.args.ranges.now in let i = c.loop-range.range-index in let lt = c.loop-range-test.true in
    let w = c.args.self.now.what in let es = c.args.entries.now in
    let r : IndexRange = get_or rs i empty in
    let is : r ≡ get_or rs i r = get_or_default rs i empty r lt in
    let holds : all_acked_by w es (from_to r.first r.last) ≡ true = grind (arith, c.if-not-may_ack_range.false, c.may_ack_range.ensures) in
    sym (range_holds (λ k. is_acked_at w (slice_get es k)) rs i r lt is holds) ∙ c.loop-range.invariant
