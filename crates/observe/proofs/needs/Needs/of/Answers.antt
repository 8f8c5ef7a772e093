use Rattle.std.proofs.Common.{List, ap, arith, subst, sym}
use Rattle.std.specs.Prelude.{Some, length}
use Rattle.observe.proofs.Each.{item_at}
use Rattle.observe.specs.Needed.{NeedOf}
use Rattle.observe.proofs.Needing.{NeededTo, all_needed, none_needed, one_needed}
use Rattle.observe.proofs.needs.Needs.of.Goals as goal

pub loop-index-init : goal.loop-index-init
loop-index-init c = subst (λ (ns : List NeedOf). NeededTo c.args.cluster c.args.here.now.topic.entries c.args.there.now.topic.entries ns (Some 0) 0) (sym c.new-counts.ensures.items) (none_needed _ _ _)

pub loop-index-preserved : goal.loop-index-preserved
loop-index-preserved c =
    let at = item_at _ c.entries-entries.result.now c.loop-index.index c.index-entries-index.result c.entries-entries.ensures (omega (arith, c.loop-index-test.true)) c.index-entries-index.is in
    rw c.in_ok-push.ensures.items (one_needed _ _ _ _ _ _ _ _ _ c.loop-index.invariant at c.need_of-need.ensures c.most-last.ensures)

pub returns : goal.returns
returns c =
    let size = ap length c.entries-entries.ensures in
    all_needed _ _ _ _ _ _ c.loop-index.invariant (omega (arith, c.loop-index-test.false, size))
