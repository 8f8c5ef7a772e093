use Rattle.std.proofs.Common.{◌≡◌, map, take}
use Rattle.geo_base.specs.Broker.{backlog}
use Rattle.step_lines.proofs.backlogs.add_backlogs.Given as goal

-- the backlogs so far
abbrev pub invariant-loop-place : goal.invariant-loop-place
invariant-loop-place l = l.counts.items ≡ map (backlog l.broker.broker) (take l.place l.broker.broker.subs)
