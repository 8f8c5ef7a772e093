-- The text in the making, as what is told of a run.
use Rattle.step_lines.specs.declared.telling.Telling.{Telling as StepText}
use Rattle.step_lines.specs.Telling.{Telling}

-- without the names
abbrev pub telling_of : StepText → Telling
telling_of t = record { text = t.text; number = t.number; said = t.said }
