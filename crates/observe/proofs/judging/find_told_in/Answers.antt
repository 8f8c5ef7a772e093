use Rattle.std.proofs.Common.{◌≡◌, ◌<◌, ◌++◌, ◌∙◌, length, arith, subst, sym}
use Rattle.observation.specs.Findings.{told}
use Rattle.observe.specs.Dealt.{LogsOf}
use Rattle.observe.proofs.Each.{each_all, each_none, number_more}
use Rattle.observe.proofs.judging.find_told_in.Goals as goal

pub loop-cluster-init : goal.loop-cluster-init
loop-cluster-init c = record { same = c.new-updates.ensures; found = each_none _ _ _ }

pub loop-cluster-preserved : goal.loop-cluster-preserved
loop-cluster-preserved c = record {
  same = c.find_told.ensures.same ∙ c.loop-cluster.invariant.same;
  found =
      number_more _ _ _ _ _ _ c.loop-cluster.invariant.found (omega (arith, c.loop-cluster-test.true, c.clusters-cluster-end.ensures))
      (subst (λ (q : LogsOf). c.find_told.new.found.items ≡ c.loop-cluster.found.items ++ told q.setup q.observed q.topic c.loop-cluster.cluster) c.loop-cluster.invariant.same c.in_ok-find_told.ensures.found);
}

pub returns : goal.returns
returns c = each_all _ _ _ _ _ c.loop-cluster.invariant.found (omega (arith, c.loop-cluster-test.false, c.clusters-cluster-end.ensures))

pub find_told-requires : goal.find_told-requires
find_told-requires c =
    subst (λ (q : LogsOf). c.loop-cluster.cluster < length q.setup.clusters) (sym c.loop-cluster.invariant.same) (omega (arith, c.loop-cluster-test.true, c.clusters-cluster-end.ensures))
