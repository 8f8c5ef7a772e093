use Rattle.std.proofs.Common.{◌∙◌, arith}
use Rattle.std.proofs.Math.Seq.{map-set_same}
use Rattle.std.proofs.lemmas.Grind.{common_steps}
use Rattle.broker_state.specs.Replicators.{ReplicatorRowView}
use Rattle.broker_state.proofs.replicators.reserve_each.Goals as goal

pub loop-replicator-preserved : goal.loop-replicator-preserved
loop-replicator-preserved c = record {
  same = map-set_same (λ (s : ReplicatorRowView). s.replicator) c.loop-replicator.replicator-items c.loop-replicator.replicator-index c.reserve.new.self c.replicator-item.result c.reserve.ensures.same ∙ c.loop-replicator.invariant.same;
  ends = map-set_same (λ (s : ReplicatorRowView). s.ends) c.loop-replicator.replicator-items c.loop-replicator.replicator-index c.reserve.new.self c.replicator-item.result c.reserve.ensures.ends ∙ c.loop-replicator.invariant.ends;
  roomy = λ k d h. grind (arith, common_steps, c.loop-replicator.invariant.roomy k d);
}

pub returns-in_err-reserve-clause-same : goal.returns-in_err-reserve-clause-same
returns-in_err-reserve-clause-same c =
    map-set_same (λ (s : ReplicatorRowView). s.replicator) c.loop-replicator.replicator-items c.loop-replicator.replicator-index c.reserve.new.self c.replicator-item.result c.reserve.ensures.same ∙ c.loop-replicator.invariant.same

pub returns-in_err-reserve-clause-ends : goal.returns-in_err-reserve-clause-ends
returns-in_err-reserve-clause-ends c =
    map-set_same (λ (s : ReplicatorRowView). s.ends) c.loop-replicator.replicator-items c.loop-replicator.replicator-index c.reserve.new.self c.replicator-item.result c.reserve.ensures.ends ∙ c.loop-replicator.invariant.ends
