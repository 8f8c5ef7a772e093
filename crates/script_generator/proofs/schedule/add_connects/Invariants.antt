use Rattle.std.proofs.Common.{◌≡◌, ◌++◌}
use Rattle.script_generator.specs.Schedule.{connects}
use Rattle.script_generator.proofs.schedule.add_connects.Given as goal

abbrev pub invariant-loop-client : goal.invariant-loop-client
invariant-loop-client l = l.steps ≡ l.initial.steps ++ connects l.client
