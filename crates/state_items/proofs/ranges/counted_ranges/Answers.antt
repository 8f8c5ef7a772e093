use Rattle.std.proofs.Common.{[], arith}
use Rattle.std.proofs.lemmas.Result.{err_from_is_err_and}
use Rattle.state_items.specs.Ranges.{range_at}
use Rattle.state_items.specs.Reading.{many}
use Rattle.state_items.proofs.Gaps.{one_in}
use Rattle.state_items.proofs.Loops.{ends, goes_on, is_done}
use Rattle.state_items.proofs.ranges.counted_ranges.Goals as goal

pub returns-in_err-range-clause-read : goal.returns-in_err-range-clause-read
returns-in_err-range-clause-read c =
    let one = range_at c.args.entries in
    let p = err_from_is_err_and c.from_residual.result c.from_residual.ensures.1 in
    let read = rw c.as_slice.ensures.value at c.in_err-range.ensures.read in
    rw (p.1, p.2) (ends one c.in_err-range.field-0.0 c.args.count c.loop.counter c.loop.ranges.items c.loop.rest.now (many one c.args.count [] c.args.bytes.now) c.loop-test.true read c.loop.invariant.0)

pub loop-preserved : goal.loop-preserved
loop-preserved c =
    let read = rw c.as_slice.ensures.value at c.in_ok-range.ensures.read in
    let next = rw c.as_slice.ensures.value at c.in_ok-range.ensures.next in
    let total = many (range_at c.args.entries) c.args.count [] c.args.bytes.now in (
      goes_on (range_at c.args.entries) c.args.count c.loop.counter c.loop.ranges.items c.push.new.self.items c.loop.rest.now c.in_ok-range.range c.in_ok-range.after.now total c.loop-test.true c.in_ok-push.ensures.items read c.loop.invariant.0,
      rw c.in_ok-push.ensures.items (one_in c.args.entries c.loop.ranges.items c.in_ok-range.range c.loop.invariant.1 next),
    )

pub returns-clause-read : goal.returns-clause-read
returns-clause-read c =
    let one = range_at c.args.entries in
    is_done one c.args.count c.loop.counter c.loop.ranges.items c.loop.rest.now (many one c.args.count [] c.args.bytes.now) (omega (arith, c.loop-test.false)) c.loop.invariant.0
