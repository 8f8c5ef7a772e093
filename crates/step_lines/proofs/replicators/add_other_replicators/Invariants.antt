use Rattle.std.proofs.Common.{◌≡◌, ◌++◌, drop, length, map}
use Rattle.geo_base.specs.Broker.{Broker}
use Rattle.step_laws.specs.Steps.{change_line, other_replicators}
use Rattle.step_lines.specs.Changes.{stood_lines}
use Rattle.step_lines.specs.Noted.{AreReplicators}
use Rattle.step_lines.proofs.replicators.add_other_replicators.Given as goal

-- the lines so far and the rest make the whole
abbrev pub invariant-loop-number : goal.invariant-loop-number
invariant-loop-number l = (b : Broker) → AreReplicators (length l.broker.site.clusters) b l.noted
    → l.lines ++ stood_lines l.indent (map change_line (other_replicators l.broker.site.own l.number (drop l.number l.broker.site.clusters) b l.broker.broker))
    ≡ l.initial.lines ++ stood_lines l.indent (map change_line (other_replicators l.broker.site.own 0 l.broker.site.clusters b l.broker.broker))
