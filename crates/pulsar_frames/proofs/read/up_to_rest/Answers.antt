use Rattle.std.proofs.Common.{ℕ, List, arith, subst}
use Rattle.pulsar_frames.specs.Streams.{IsStream}
use Rattle.pulsar_frames.proofs.Complete.{frames_complete}
use Rattle.pulsar_frames.proofs.Reading.{rest_length, rest_is}
use Rattle.pulsar_frames.proofs.read.up_to_rest.Goals as goal

pub overflow_sub-result : goal.overflow_sub-result
overflow_sub-result c = omega (arith, rest_length c.args.bytes.now c.args.rest.now c.args.frames c.requires.whole)

pub returns-clause-stream : goal.returns-clause-stream
returns-clause-stream c =
    subst (λ (r : List ℕ). IsStream c.args.bytes.now c.args.frames r c.args.fault)
    (rest_is c.args.bytes.now c.args.rest.now c.args.frames c.requires.whole) c.requires

pub returns-clause-complete : goal.returns-clause-complete
returns-clause-complete c = frames_complete c.requires.whole
