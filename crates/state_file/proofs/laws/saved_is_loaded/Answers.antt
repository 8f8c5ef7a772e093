use Rattle.state_file.proofs.Back.{state_again}
use Rattle.state_file.proofs.laws.saved_is_loaded.Goals as goal

pub returns : goal.returns
returns c = λ s more h. state_again s more h
