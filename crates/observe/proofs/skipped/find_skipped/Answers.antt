use Rattle.std.proofs.Common.{◌∙◌, ap, arith}
use Rattle.std.specs.Prelude.{length}
use Rattle.observation.specs.Findings.{skipped}
use Rattle.observation.specs.Observed.{Seen}
use Rattle.observe.proofs.Each.{each_all, each_more, each_none, item_at}
use Rattle.observe.proofs.skipped.find_skipped.Goals as goal

pub loop-sub-init : goal.loop-sub-init
loop-sub-init c = each_none _ _ _

pub loop-sub-preserved : goal.loop-sub-preserved
loop-sub-preserved c =
    each_more _ _ _ _ _ _ c.sub-item.result c.loop-sub.invariant (item_at _ _ c.loop-sub.sub-index c.sub-item.result (c.subs-subs.ensures ∙ ap (λ (q : Seen). q.topic.subs) c.at.ensures) c.loop-sub-test.true c.sub-item.is) c.in_ok-find_skipped_of.ensures

pub returns : goal.returns
unfolding skipped
returns c =
    let size = ap length (c.subs-subs.ensures ∙ ap (λ (q : Seen). q.topic.subs) c.at.ensures) in
    each_all _ _ _ _ _ c.loop-sub.invariant (omega (arith, c.loop-sub-test.false, size))
