use Rattle.std.proofs.Common.{◌≤◌, ◌-◌, vec_len, vec_capacity}
use Rattle.pulsar_commands.specs.Usual.{FrontIds}
use Rattle.pulsar_commands.proofs.acks.usual_ids.Given as goal

abbrev pub invariant-loop-rest : goal.invariant-loop-rest
invariant-loop-rest l = record {
  ids : FrontIds l.bytes l.positions.items l.rest;
  room : l.most ≤ vec_capacity l.positions;
}

abbrev pub decreases-loop-rest : goal.decreases-loop-rest
decreases-loop-rest l = l.most - vec_len l.positions
