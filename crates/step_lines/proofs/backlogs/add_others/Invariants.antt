use Rattle.std.proofs.Common.{◌≡◌, filter, map, take}
use Rattle.geo_base.specs.Broker.{backlog}
use Rattle.step_lines.specs.Backlogs.{is_other}
use Rattle.step_lines.proofs.backlogs.add_others.Given as goal

-- the backlogs so far
abbrev pub invariant-loop-place : goal.invariant-loop-place
invariant-loop-place l = l.next.items ≡ map (backlog l.broker.broker) (filter (is_other l.named.sub.name) (take l.place l.broker.broker.subs))
