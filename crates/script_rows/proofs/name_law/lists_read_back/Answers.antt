use Rattle.script_rows.proofs.Masks.{mask_back}
use Rattle.script_rows.proofs.name_law.lists_read_back.Goals as goal

pub returns : goal.returns
returns c = mask_back
