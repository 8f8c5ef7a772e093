use Rattle.std.proofs.Common.{◌≡◌, ◌++◌, drop}
use Rattle.merge_history.specs.Events.{allowed}
use Rattle.merge_history.proofs.events.allowed_steps.Given as goal

-- the steps so far and those of the rest
abbrev pub invariant-loop-place : goal.invariant-loop-place
invariant-loop-place l = l.allowed ++ allowed l.scenario.setup (drop l.place l.steps) ≡ allowed l.scenario.setup l.steps
