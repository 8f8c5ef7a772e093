use Rattle.std.proofs.Common.{List, arith, subst, sym}
use Rattle.observation.specs.Observed.{Seen, entries_seen}
use Rattle.observe.specs.Needed.{AreNeeds, NeedOf}
use Rattle.observe.proofs.Needing.{AllNeedsTo, all_needs, more_needs, no_needs}
use Rattle.observe.proofs.observed.Observed.all_needs.Goals as goal

pub loop-cluster-init : goal.loop-cluster-init
loop-cluster-init c = subst (λ (nss : List (List NeedOf)). AllNeedsTo c.args.scenario.now.setup c.args.self.now c.args.at.topic c.args.at.cluster nss 0) (sym c.new-needs.ensures.items) (no_needs _ _ _ _)

pub loop-cluster-preserved : goal.loop-cluster-preserved
loop-cluster-preserved c =
    rw c.in_ok-push.ensures.items (more_needs _ _ _ _ _ _ _ c.loop-cluster.invariant
    (subst (λ (v : Seen). AreNeeds c.args.at.cluster v.topic.entries (entries_seen c.args.scenario.now.setup c.args.self.now c.args.at.topic c.loop-cluster.cluster) c.in_ok-of.field-0) c.at-here.ensures
    (subst (λ (v : Seen). AreNeeds c.args.at.cluster c.at-here.result.now.topic.entries v.topic.entries c.in_ok-of.field-0) c.at.ensures c.in_ok-of.ensures)))

pub returns : goal.returns
returns c = all_needs _ _ _ _ _ _ c.loop-cluster.invariant (omega (arith, c.loop-cluster-test.false, c.loop-cluster.invariant.sized, c.cluster_count-cluster-end.ensures))
