use Rattle.pulsar_frames.proofs.OneStream.{one_there, one_back}
use Rattle.pulsar_frames.proofs.laws.one_frame.Goals as goal

pub returns : goal.returns
returns c = record { there = one_there; back = one_back }
