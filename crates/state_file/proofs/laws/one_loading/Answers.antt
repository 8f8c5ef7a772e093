use Rattle.state_file.proofs.One.{loaded_one}
use Rattle.state_file.proofs.laws.one_loading.Goals as goal

pub returns : goal.returns
returns c = λ bytes a b h k. loaded_one bytes a b h k
