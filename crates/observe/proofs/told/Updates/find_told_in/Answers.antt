use Rattle.std.proofs.Common.{◌≡◌, ◌++◌, ◌∙◌, refl, subst}
use Rattle.observation.specs.Findings.{told_of}
use Rattle.observe.specs.Dealt.{LogsOf}
use Rattle.observe.proofs.Each.{each_all, each_more, each_none, item_at}
use Rattle.observe.proofs.told.Updates.find_told_in.Goals as goal

pub loop-pair-init : goal.loop-pair-init
loop-pair-init c = record { same = refl; found = each_none _ _ _ }

pub loop-pair-preserved : goal.loop-pair-preserved
loop-pair-preserved c = record {
  same = c.find_told_of.ensures.same ∙ c.loop-pair.invariant.same;
  found =
      each_more _ _ _ _ _ _ c.pair-item.result c.loop-pair.invariant.found (item_at _ _ c.loop-pair.pair-index c.pair-item.result refl c.loop-pair-test.true c.pair-item.is)
      (subst (λ (q : LogsOf). c.find_told_of.new.found.items ≡ c.loop-pair.found.items ++ told_of q.setup q.observed q.topic c.args.update.cluster c.args.update.index c.args.update.origin c.args.update.sub.now c.pair-item.result) c.loop-pair.invariant.same c.in_ok-find_told_of.ensures.found);
}

pub returns : goal.returns
returns c = record { same = c.loop-pair.invariant.same; found = each_all _ _ _ _ _ c.loop-pair.invariant.found c.loop-pair-test.false }
