use Rattle.std.proofs.Common.{◌≡◌, ◌+◌, vec_len}
use Rattle.live_run.proofs.logs.open_clients.Given as goal

-- those of the clients so far
abbrev pub invariant-loop-client : goal.invariant-loop-client
invariant-loop-client l = (l.rings ≡ l.initial.rings) × (vec_len l.logs ≡ vec_len l.initial.logs + l.client)
