use Rattle.std.proofs.Common.{◌≡◌, ◌≤◌, replicate, vec_len, vec_capacity}
use Rattle.geo_base.specs.Replicator.{new_replicator}
use Rattle.broker_state.specs.Replicators.{AreOf, ends_of, replicators_of}
use Rattle.broker_state.proofs.replicators.ReplicatorTable.new.Given as goal

abbrev pub invariant-loop-remote : goal.invariant-loop-remote
invariant-loop-remote l = record {
  ends : AreOf l.own (ends_of l.replicators.items);
  same : replicators_of l.replicators.items ≡ replicate l.remote new_replicator;
  many : vec_len l.replicators ≡ l.remote;
  room : l.clusters ≤ vec_capacity l.replicators;
}
