use Rattle.std.proofs.Common.{◌≡◌, ◌≤◌, replicate, vec_len, vec_capacity}
use Rattle.std.specs.Prelude.{None}
use Rattle.broker_state.proofs.parts.no_sessions.Given as goal

abbrev pub invariant-loop-client : goal.invariant-loop-client
invariant-loop-client l = record {
  same : l.sessions.items ≡ replicate l._client None;
  many : vec_len l.sessions ≡ l._client;
  room : l.clients ≤ vec_capacity l.sessions;
}
