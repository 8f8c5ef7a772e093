use Rattle.std.proofs.Common.{◌≡◌, ◌++◌, drop, map}
use Rattle.merge_history.specs.Events.{history_in}
use Rattle.merge_history.proofs.events.histories_of.Given as goal

-- the histories so far and those that are left
abbrev pub invariant-loop-log : goal.invariant-loop-log
invariant-loop-log l = l.histories.items ++ map history_in (drop l.log-index l.logs) ≡ map history_in l.logs
