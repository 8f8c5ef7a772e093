use Rattle.std.proofs.Common.{◌≡◌, drop}
use Rattle.step_lines.specs.Noted.{shown_named}
use Rattle.step_lines.proofs.broker_changes.shown_named.Given as goal

-- what is left has what all have
abbrev pub invariant-loop-sub : goal.invariant-loop-sub
invariant-loop-sub l = shown_named (drop l.sub-index l.noted) l.name ≡ shown_named l.noted l.name
