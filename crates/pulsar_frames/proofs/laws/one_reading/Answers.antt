use Rattle.pulsar_frames.proofs.OneFrame.{text_one}
use Rattle.pulsar_frames.proofs.OneStream.{stream_one, ends_sound}
use Rattle.pulsar_frames.proofs.laws.one_reading.Goals as goal

pub returns : goal.returns
returns c = record { frame = text_one; stream = stream_one; rest = ends_sound }
