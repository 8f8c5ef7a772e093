use Rattle.std.proofs.Common.{◌≡◌, ◌++◌, drop, take, length}
use Rattle.durable_parts.specs.Parts.{replicators_of}
use Rattle.state_nodes.specs.Replicators.{replicators_from}
use Rattle.state_nodes.proofs.writing.put_replicators.Given as goal

abbrev pub invariant-loop-cluster : goal.invariant-loop-cluster
invariant-loop-cluster l = record {
  so_far : l.out ++ replicators_from l.entries l.own l.cluster (drop l.cluster (replicators_of l.replicators)) ≡ l.initial.out ++ replicators_from l.entries l.own 0 (replicators_of l.replicators);
  begins : take (length l.initial.out) l.out ≡ l.initial.out;
}
