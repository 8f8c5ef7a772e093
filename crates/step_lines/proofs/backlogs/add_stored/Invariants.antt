use Rattle.std.proofs.Common.{◌≡◌, map, take}
use Rattle.step_lines.specs.Backlogs.{backlog_with}
use Rattle.step_lines.proofs.backlogs.add_stored.Given as goal

-- the backlogs so far
abbrev pub invariant-loop-place : goal.invariant-loop-place
invariant-loop-place l = l.next.items ≡ map (backlog_with l.broker.broker l.entry) (take l.place l.broker.broker.subs)
