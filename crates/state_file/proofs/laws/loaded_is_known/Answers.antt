use Rattle.state_file.proofs.Known.{loaded_known}
use Rattle.state_file.proofs.laws.loaded_is_known.Goals as goal

pub returns : goal.returns
returns c = loaded_known
