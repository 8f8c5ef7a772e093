use Rattle.std.proofs.Common.{◌≡◌, ◌+◌, vec_len}
use Rattle.live_run.proofs.logs.open_topic.Given as goal

-- those of the clusters so far
abbrev pub invariant-loop-cluster : goal.invariant-loop-cluster
invariant-loop-cluster l = (l.rings ≡ l.initial.rings) × (vec_len l.logs ≡ vec_len l.initial.logs + l.cluster)
