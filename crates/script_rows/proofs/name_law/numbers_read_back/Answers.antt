use Rattle.script_rows.proofs.Digits.{number_back}
use Rattle.script_rows.proofs.name_law.numbers_read_back.Goals as goal

pub returns : goal.returns
returns c = number_back
