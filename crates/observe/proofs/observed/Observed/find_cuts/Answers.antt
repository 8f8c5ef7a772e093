use Rattle.std.proofs.Common.{ap, arith}
use Rattle.std.specs.Prelude.{length}
use Rattle.geo_base.proofs.Lists.{get_some_below}
use Rattle.observation.specs.Findings.{cuts}
use Rattle.observe.proofs.Each.{each_all, each_more, each_none}
use Rattle.observe.proofs.observed.Observed.find_cuts.Goals as goal

pub loop-index-init : goal.loop-index-init
loop-index-init c = each_none _ _ _

pub loop-index-preserved : goal.loop-index-preserved
loop-index-preserved c =
    let size = ap length c.entries_at-entries.ensures in
    let e = get_some_below _ c.loop-index.index (omega (arith, c.loop-index-test.true, size)) in
    each_more _ _ _ _ _ _ e.0 c.loop-index.invariant e.1 (c.in_ok-find_cut_at.ensures e.0 e.1)

pub returns : goal.returns
unfolding cuts
returns c =
    let size = ap length c.entries_at-entries.ensures in
    each_all _ _ _ _ _ c.loop-index.invariant (omega (arith, c.loop-index-test.false, size))
