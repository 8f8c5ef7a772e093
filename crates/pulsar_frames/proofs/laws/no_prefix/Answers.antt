use Rattle.pulsar_frames.proofs.OneFrame.{no_prefix}
use Rattle.pulsar_frames.proofs.laws.no_prefix.Goals as goal

pub returns : goal.returns
returns c = no_prefix
