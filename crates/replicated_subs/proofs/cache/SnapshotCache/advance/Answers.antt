use Rattle.std.proofs.Common.{arith}
use Rattle.replicated_subs.proofs.Passing.{last_is, left_is}
use Rattle.replicated_subs.proofs.cache.SnapshotCache.advance.Goals as goal

pub returns-clause-passed : goal.returns-clause-passed
returns-clause-passed c =
    let call = c.take_front.ensures.last in
    let count = c.passed_count-count.ensures.count in
    let last = last_is c.args.mark c.self.inside.items.items in
    let view = c.self.view_is in
    grind (arith, call, count, last, view)

pub returns-clause-left : goal.returns-clause-left
returns-clause-left c =
    let call = c.take_front.ensures.left in
    let count = c.passed_count-count.ensures.count in
    let left = left_is c.args.mark c.self.inside.items.items in
    let view = c.self.view_is in
    grind (arith, call, count, left, view)
