use Rattle.std.proofs.Common.{◌≡◌, map, take}
use Rattle.step_lines.specs.Backlogs.{backlog_written}
use Rattle.step_lines.proofs.backlogs.add_written.Given as goal

-- the backlogs so far
abbrev pub invariant-loop-place : goal.invariant-loop-place
invariant-loop-place l = l.next.items ≡ map (backlog_written l.broker.broker l.named.sub.name l.write) (take l.place l.broker.broker.subs)
