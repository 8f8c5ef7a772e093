use Rattle.frame_values.proofs.One.{written_stands}
use Rattle.frame_values.proofs.laws.canonical_value.Goals as goal

pub returns : goal.returns
returns c = written_stands
