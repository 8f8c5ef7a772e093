use Rattle.std.proofs.Common.{◌≡◌}
use Rattle.broker_state.specs.Replicators.{row_restarted}
use Rattle.geo_base.proofs.Mapped.{mapped_to}
use Rattle.broker_state.proofs.replicators.restart_each.Given as goal

abbrev pub invariant-loop-replicator : goal.invariant-loop-replicator
invariant-loop-replicator l = l.replicator-items ≡ mapped_to row_restarted l.replicator-index l.fn.replicators
