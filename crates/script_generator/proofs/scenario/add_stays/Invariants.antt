use Rattle.std.proofs.Common.{◌≡◌, ◌++◌}
use Rattle.script_generator.specs.Scenario.{stays}
use Rattle.script_generator.proofs.scenario.add_stays.Given as goal

abbrev pub invariant-loop-stay : goal.invariant-loop-stay
invariant-loop-stay l = l.lines ≡ l.initial.lines ++ stays l.stay
