use Rattle.std.proofs.Common.{◌≡◌, ◌++◌}
use Rattle.script_generator.specs.Schedule.{finishes}
use Rattle.script_generator.proofs.schedule.add_finishes.Given as goal

abbrev pub invariant-loop-client : goal.invariant-loop-client
invariant-loop-client l = l.steps ≡ l.initial.steps ++ finishes l.client
