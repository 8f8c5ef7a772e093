use Rattle.std.proofs.Common.{◌≡◌, ◌+◌, ◌*◌, length, vec_len}
use Rattle.std.specs.Arc.{arc_value}
use Rattle.live_run.proofs.logs.open_brokers.Given as goal

-- those of the topics so far
abbrev pub invariant-loop-topic : goal.invariant-loop-topic
invariant-loop-topic l = (l.rings ≡ l.initial.rings) × (vec_len l.logs ≡ vec_len l.initial.logs + l.topic * length (arc_value l.scenario).setup.clusters)
