use Rattle.frame_values.proofs.One.{value_one}
use Rattle.frame_values.proofs.laws.one_value.Goals as goal

pub returns : goal.returns
returns c = value_one
