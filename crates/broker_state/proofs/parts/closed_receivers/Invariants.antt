use Rattle.std.proofs.Common.{◌≡◌, ◌≤◌, replicate, vec_len, vec_capacity}
use Rattle.std.specs.Prelude.{None}
use Rattle.broker_state.proofs.parts.closed_receivers.Given as goal

abbrev pub invariant-loop-cluster : goal.invariant-loop-cluster
invariant-loop-cluster l = record {
  same : l.receivers.items ≡ replicate l._cluster None;
  many : vec_len l.receivers ≡ l._cluster;
  room : l.clusters ≤ vec_capacity l.receivers;
}
