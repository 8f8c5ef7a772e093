use Rattle.pulsar_frames.specs.Viewed.{layout}
use Rattle.pulsar_frames.proofs.Reading.{frame_wrong}
use Rattle.pulsar_frames.proofs.read.frame_at.Goals as goal

pub returns-in-Err-clause-err : goal.returns-in-Err-clause-err
returns-in-Err-clause-err c = let t = c.in_ok-parts_at.ensures.ok in frame_wrong c.args.bytes.now (layout c.in-Some.parts) c.in-Some.rest.now c.in-Err.why (rw c.in-Some.is at t) c.in-Err.ensures.err
