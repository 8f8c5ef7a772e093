use Rattle.std.proofs.Common.{◌≡◌, ◌++◌, drop}
use Rattle.merge_history.specs.Kept.{kept_stamp}
use Rattle.merge_history.specs.Turns.{all_turns}
use Rattle.merge_history.proofs.steps.merged_turns.Given as goal

-- the turns so far and those that are left
abbrev pub invariant-loop-node : goal.invariant-loop-node
invariant-loop-node l = l.turns.items ++ all_turns kept_stamp l.node (drop l.node l.histories) ≡ all_turns kept_stamp 0 l.histories
