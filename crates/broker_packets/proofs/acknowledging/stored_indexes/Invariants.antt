use Rattle.std.proofs.Common.{◌≡◌, ◌<◌, ◌++◌, length, drop}
use Rattle.std.specs.List.{All}
use Rattle.geo_base.specs.Acknowledging.{stored_indexes}
use Rattle.broker_packets.proofs.acknowledging.stored_indexes.Given as goal

-- what was found, and what the positions that are left give
abbrev pub invariant-loop-position : goal.invariant-loop-position
invariant-loop-position l = record {
  rest : l.indexes ++ stored_indexes l.state.broker.ledgers (drop l.position-index l.positions) ≡ stored_indexes l.state.broker.ledgers l.positions;
  within : All (λ i. i < length l.state.broker.entries) l.indexes;
}
