use Rattle.broker.proofs.ReadFrames.{reads_frame}
use Rattle.broker.proofs.reading.read_packet.Goals as goal

pub returns-clause-read : goal.returns-clause-read
returns-clause-read c = reads_frame c.clusters.result.now c.as_slice.result.now c.in_ok-frame.frame c.in_ok-frame.ensures.value c.in_ok-frame.ensures.rest
