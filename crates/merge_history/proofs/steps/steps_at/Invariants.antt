use Rattle.std.proofs.Common.{◌≡◌, ◌++◌, drop, map}
use Rattle.merge_history.specs.Turns.{step_at}
use Rattle.merge_history.proofs.steps.steps_at.Given as goal

-- the steps so far and those that are left
abbrev pub invariant-loop-turn : goal.invariant-loop-turn
invariant-loop-turn l = l.steps ++ map (step_at l.histories) (drop l.turn-index l.turns) ≡ map (step_at l.histories) l.turns
