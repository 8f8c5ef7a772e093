use Rattle.std.proofs.Common.{◌≡◌, ◌++◌}
use Rattle.script_generator.specs.Schedule.{opens}
use Rattle.script_generator.proofs.schedule.add_opens.Given as goal

abbrev pub invariant-loop-number : goal.invariant-loop-number
invariant-loop-number l = l.steps ≡ l.initial.steps ++ opens l.number
