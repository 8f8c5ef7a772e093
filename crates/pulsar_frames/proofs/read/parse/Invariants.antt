use Rattle.std.proofs.Common.{length}
use Rattle.pulsar_frames.specs.Streams.{AreFrames}
use Rattle.pulsar_frames.proofs.read.parse.Given as goal

abbrev pub invariant-each : goal.invariant-each
invariant-each l = AreFrames l.bytes l.frames l.rest

abbrev pub decreases-each : goal.decreases-each
decreases-each l = length l.rest
