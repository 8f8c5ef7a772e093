use Rattle.frame_values.proofs.Sized.{frame_length}
use Rattle.frame_values.proofs.laws.text_sizes.Goals as goal

pub returns : goal.returns
returns c = frame_length
