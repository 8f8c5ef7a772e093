use Rattle.script_rows.proofs.Lines.{step_reads}
use Rattle.script_rows.proofs.law.steps_read_back.Goals as goal

pub returns : goal.returns
returns c = step_reads
