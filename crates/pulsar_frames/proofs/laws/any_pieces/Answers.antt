use Rattle.pulsar_frames.proofs.OneStream.{came}
use Rattle.pulsar_frames.proofs.laws.any_pieces.Goals as goal

pub returns : goal.returns
returns c = λ stream taken r h. came h
