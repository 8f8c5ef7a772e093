use Rattle.script_rows.proofs.Lines.{step_known}
use Rattle.script_rows.proofs.law.steps_are_known.Goals as goal

pub returns : goal.returns
returns c = step_known
