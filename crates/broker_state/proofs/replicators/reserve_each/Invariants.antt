use Rattle.std.proofs.Common.{◌≡◌, ℕ, ◌≤◌, ◌<◌, get_or}
use Rattle.broker_state.specs.Replicators.{ReplicatorRowView, ends_of, replicators_of}
use Rattle.broker_state.proofs.replicators.reserve_each.Given as goal

abbrev pub invariant-loop-replicator : goal.invariant-loop-replicator
invariant-loop-replicator l = record {
  same : replicators_of l.replicator-items ≡ replicators_of l.fn.replicators;
  ends : ends_of l.replicator-items ≡ ends_of l.fn.replicators;
  roomy : (k : ℕ) (d : ReplicatorRowView) → k < l.replicator-index → l.room ≤ (get_or l.replicator-items k d).room;
}
