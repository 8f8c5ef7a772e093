use Rattle.std.proofs.Common.{◌≡◌, drop, length}
use Rattle.geo_base.specs.Broker.{Broker}
use Rattle.step_laws.specs.Steps.{other_replicators}
use Rattle.step_lines.specs.Noted.{AreReplicators}
use Rattle.step_lines.proofs.replicators.is_any_other.Given as goal

-- nothing is told of those so far
abbrev pub invariant-loop-remote : goal.invariant-loop-remote
invariant-loop-remote l = (b : Broker) → AreReplicators (length l.broker.site.clusters) b l.noted
    → other_replicators l.broker.site.own l.remote (drop l.remote l.broker.site.clusters) b l.broker.broker ≡ other_replicators l.broker.site.own 0 l.broker.site.clusters b l.broker.broker
