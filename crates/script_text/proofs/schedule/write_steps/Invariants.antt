use Rattle.std.proofs.Common.{◌≡◌, ◌++◌, drop}
use Rattle.script_text.specs.Schedule.{schedule_text}
use Rattle.script_text.proofs.schedule.write_steps.Given as goal

abbrev pub invariant-loop-place : goal.invariant-loop-place
invariant-loop-place l = l.text ++ schedule_text l.names (drop l.place l.steps) ≡ schedule_text l.names l.steps
