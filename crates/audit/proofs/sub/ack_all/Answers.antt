use Rattle.std.proofs.Common.{◌≡◌, ◌∙◌, arith, get_or}
use Rattle.std.proofs.lemmas.List.{get_or_default}
use Rattle.cursor_acks.specs.declared.range.IndexRange.{IndexRange}
use Rattle.audit.proofs.Gains.{last_stored, one_more_gained, still_free}
use Rattle.audit.proofs.sub.ack_all.Goals as goal

abbrev empty : IndexRange
empty = record { first = 0; last = 0 }

pub ack_range-requires-clause-new : goal.ack_range-requires-clause-new
ack_range-requires-clause-new c =
    let rs = c.args.ranges.now in let i = c.loop-range.range-index in
    let r : IndexRange = get_or rs i empty in
    let is : r ≡ get_or rs i r = get_or_default rs i empty r c.loop-range-test.true in
    rw (c.reserve.ensures.indexes, c.loop-range.invariant)
    (still_free c.args.cursor.now.indexes c.args.len rs i r c.requires.gains c.requires.apart c.loop-range-test.true is)

pub unreachable-requires : goal.unreachable-requires
unreachable-requires c =
    let rs = c.args.ranges.now in let i = c.loop-range.range-index in
    let r : IndexRange = get_or rs i empty in
    let is : r ≡ get_or rs i r = get_or_default rs i empty r c.loop-range-test.true in
    let stored = last_stored c.args.cursor.now.indexes c.args.len rs i r c.requires.gains c.requires.apart c.loop-range-test.true is in
    let past = c.in-Err.ensures.past_end.0 in
    omega (arith, stored, past)

pub loop-range-preserved : goal.loop-range-preserved
loop-range-preserved c =
    let rs = c.args.ranges.now in let i = c.loop-range.range-index in
    let r : IndexRange = get_or rs i empty in
    let is : r ≡ get_or rs i r = get_or_default rs i empty r c.loop-range-test.true in
    c.in-Ok.ensures.indexes
    ∙ rw (c.reserve.ensures.indexes, c.loop-range.invariant) (one_more_gained c.args.cursor.now.indexes rs i r c.loop-range-test.true is)
