use Rattle.std.proofs.Common.{◌≡◌, ◌++◌, drop}
use Rattle.geo_base.specs.SnapshotBuilder.{named, named_from}
use Rattle.replicated_subs.proofs.naming.named_positions.Given as goal

abbrev pub invariant-loop-cluster : goal.invariant-loop-cluster
invariant-loop-cluster l = l.named ++ named_from l.cluster (drop l.cluster l.remote) ≡ named_from 0 l.remote
