use Rattle.std.proofs.Common.{◌-◌, arith}
use Rattle.replicated_subs.proofs.Passing.{last_at, none_at}
use Rattle.replicated_subs.proofs.cache.SnapshotCache.passed.Goals as goal

pub returns-then-count-eq0 : goal.returns-then-count-eq0
returns-then-count-eq0 c =
    let none = none_at c.args.mark c.passed_count-count.result c.self.inside.items.items c.passed_count-count.ensures.count c.if-count-eq0.true in
    let view = c.self.view_is in
    grind (arith, none, view)

pub returns : goal.returns
returns c =
    let item = c.index.ensures in
    let view = c.self.view_is in
    let last = last_at c.args.mark (c.passed_count-count.result - 1) c.passed_count-count.result c.self.inside.items.items c.index.result.now c.passed_count-count.ensures.count (omega (arith, c.if-count-eq0.false)) in
    grind (arith, item, last, view)
