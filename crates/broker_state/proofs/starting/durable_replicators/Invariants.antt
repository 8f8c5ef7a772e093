use Rattle.std.proofs.Common.{◌≡◌, map}
use Rattle.std.specs.Prelude.{take}
use Rattle.geo_base.specs.Replicator.{replicator_restarted}
use Rattle.durable_parts.specs.Parts as durable
use Rattle.broker_state.specs.Replicators.{replicators_of}
use Rattle.broker_state.proofs.starting.durable_replicators.Given as goal

abbrev pub invariant-loop-row : goal.invariant-loop-row
invariant-loop-row l = durable.replicators_of l.parts.items ≡ map replicator_restarted (replicators_of (take l.row-index l.rows))
