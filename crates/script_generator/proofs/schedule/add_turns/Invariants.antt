use Rattle.std.proofs.Common.{◌≡◌, ◌++◌}
use Rattle.script_generator.specs.Schedule.{turns}
use Rattle.script_generator.proofs.schedule.add_turns.Given as goal

abbrev pub invariant-loop-turn : goal.invariant-loop-turn
invariant-loop-turn l = (l.steps ≡ l.initial.steps ++ (turns l.turn l.initial.draws).steps) × (l.draws ≡ (turns l.turn l.initial.draws).after)
