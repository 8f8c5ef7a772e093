use Rattle.std.proofs.Common.{◌≡◌, ◌++◌, drop, map}
use Rattle.step_laws.specs.Steps.{change_line}
use Rattle.step_lines.specs.Changes.{stood_lines}
use Rattle.step_lines.specs.Noted.{gone_told}
use Rattle.step_lines.proofs.broker_changes.add_gone_subs.Given as goal

-- the lines so far and the rest make the whole
abbrev pub invariant-loop-sub : goal.invariant-loop-sub
invariant-loop-sub l =
    l.lines ++ stood_lines l.indent (map change_line (gone_told l.broker.broker (drop l.sub-index l.noted)))
    ≡ l.initial.lines ++ stood_lines l.indent (map change_line (gone_told l.broker.broker l.noted))
