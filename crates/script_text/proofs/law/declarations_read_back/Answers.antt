use Rattle.script_text.proofs.AllBack.{declarations_back}
use Rattle.script_text.proofs.law.declarations_read_back.Goals as goal

pub returns : goal.returns
returns c = declarations_back
