use Rattle.std.proofs.Common.{arith}
use Rattle.pulsar_frames.proofs.SizeTexts.{size_front}
use Rattle.pulsar_frames.proofs.layout.size_at.Goals as goal

pub returns : goal.returns
returns c = (omega (arith, c.from_be_bytes.type_inv), rw (c.from_be_bytes.ensures, c.in-Some.ensures.cases.0, c.in-Some.ensures.cases.1) (size_front c.args.bytes.now (omega (arith, c.in-Some.ensures.cases.2)) (λ i. omega (arith, c.type_inv.bytes i))))
