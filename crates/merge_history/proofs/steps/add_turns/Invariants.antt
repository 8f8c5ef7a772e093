use Rattle.std.proofs.Common.{◌≡◌, ◌++◌, drop}
use Rattle.merge_history.specs.Kept.{kept_stamp}
use Rattle.merge_history.specs.Turns.{turns_from}
use Rattle.merge_history.proofs.steps.add_turns.Given as goal

-- the turns so far and those that are left
abbrev pub invariant-loop-place : goal.invariant-loop-place
invariant-loop-place l =
    l.turns.items ++ turns_from kept_stamp l.node l.place (drop l.place l.events) ≡ l.initial.turns.items ++ turns_from kept_stamp l.node 0 l.events
