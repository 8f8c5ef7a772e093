use Rattle.std.proofs.Common.{◌≡◌, ◌≤◌, replicate, vec_len, vec_capacity}
use Rattle.geo_base.specs.Replicator.{new_replicator}
use Rattle.durable_parts.specs.Parts.{replicators_of}
use Rattle.durable_parts.proofs.replicators.DurableReplicators.new.Given as goal

abbrev pub invariant-loop-cluster : goal.invariant-loop-cluster
invariant-loop-cluster l = record {
  same : replicators_of l.replicators.items ≡ replicate l._cluster new_replicator;
  many : vec_len l.replicators ≡ l._cluster;
  room : l.clusters ≤ vec_capacity l.replicators;
}
