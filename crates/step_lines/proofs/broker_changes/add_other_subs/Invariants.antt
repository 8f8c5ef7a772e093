use Rattle.std.proofs.Common.{◌≡◌, ◌++◌, drop, map}
use Rattle.step_laws.specs.Steps.{change_line}
use Rattle.step_lines.specs.Changes.{stood_lines}
use Rattle.step_lines.specs.Noted.{subs_told}
use Rattle.step_lines.proofs.broker_changes.add_other_subs.Given as goal

-- the lines so far and the rest make the whole
abbrev pub invariant-loop-place : goal.invariant-loop-place
invariant-loop-place l =
    l.lines ++ stood_lines l.indent (map change_line (subs_told l.broker.broker l.noted (drop l.place l.broker.broker.subs)))
    ≡ l.initial.lines ++ stood_lines l.indent (map change_line (subs_told l.broker.broker l.noted l.broker.broker.subs))
