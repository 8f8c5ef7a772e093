use Rattle.std.proofs.Common.{◌≡◌, ◌+◌, ◌≤◌, false, get_or, ap, ◌∙◌, arith}
use Rattle.std.proofs.lemmas.List.{get_or_default}
use Rattle.cursor_acks.specs.declared.range.IndexRange.{IndexRange}
use Rattle.cursor_acks.specs.Acks.{IsFirstOpen}
use Rattle.cursor_acks.specs.Blocks.{flat}
use Rattle.cursor_acks.specs.Ranges.{covers, indexes_of}
use Rattle.cursor_acks.proofs.Added.{acked_again}
use Rattle.cursor_acks.proofs.RangeIndexes.{place_out}
use Rattle.cursor_acks.proofs.Reading.{open_behind, open_below, open_here}
use Rattle.cursor_acks.proofs.cursor.Cursor.next_open.Goals as goal

pub returns-in-None : goal.returns-in-None
returns-in-None c =
    let rs = c.self.inside.ranges.list in
    let out : covers rs c.args.from ≡ false =
    place_out rs c.args.from (flat c.self.inside.ranges.blocks c.place_of.result) c.self.invariant c.place_of.ensures.range_index (λ d n. absurd (omega (arith, n, c.in-None.ensures.none))) in
    let first : IsFirstOpen (indexes_of rs) c.args.from c.args.from = open_here rs c.args.from out in
    rw (← c.self.view_is) (record { least = first; below = λ end. open_below (indexes_of rs) c.args.from c.args.from end first; again = acked_again rs c.self.invariant })

pub overflow_add-result : goal.overflow_add-result
overflow_add-result c =
    let rs = c.self.inside.ranges.list in
    let here = c.in-Some.ensures.some in
    omega (arith, c.self.invariant.bounded (flat c.self.inside.ranges.blocks c.place_of.result) c.in-Some.range here.1.0, ap (λ (r : IndexRange). r.last) here.1.1)

pub returns-then-range-from : goal.returns-then-range-from
returns-then-range-from c =
    let rs = c.self.inside.ranges.list in
    let f = flat c.self.inside.ranges.blocks c.place_of.result in
    let r = c.in-Some.range in
    let here = c.in-Some.ensures.some in
    let low : (get_or rs f r).first ≤ c.args.from = omega (arith, ap (λ (x : IndexRange). x.first) here.1.1, c.if-range-from.true) in
    let last : (get_or rs f r).last + 1 ≡ r.last + 1 = omega (arith, ap (λ (x : IndexRange). x.last) here.1.1) in
    let first : IsFirstOpen (indexes_of rs) c.args.from ((get_or rs f r).last + 1) = open_behind rs c.args.from f r c.self.invariant c.place_of.ensures.range_index here.1.0 low in
    rw (← c.self.view_is, ← last)
    (record { least = first; below = λ end. open_below (indexes_of rs) c.args.from ((get_or rs f r).last + 1) end first; again = acked_again rs c.self.invariant })

pub returns-else-range-from : goal.returns-else-range-from
returns-else-range-from c =
    let rs = c.self.inside.ranges.list in
    let f = flat c.self.inside.ranges.blocks c.place_of.result in
    let r = c.in-Some.range in
    let here = c.in-Some.ensures.some in
    let out : covers rs c.args.from ≡ false =
    place_out rs c.args.from f c.self.invariant c.place_of.ensures.range_index
    (λ d n. omega (arith, c.if-range-from.false, ap (λ (x : IndexRange). x.first) (here.1.1 ∙ get_or_default rs f r d n))) in
    let first : IsFirstOpen (indexes_of rs) c.args.from c.args.from = open_here rs c.args.from out in
    rw (← c.self.view_is) (record { least = first; below = λ end. open_below (indexes_of rs) c.args.from c.args.from end first; again = acked_again rs c.self.invariant })
