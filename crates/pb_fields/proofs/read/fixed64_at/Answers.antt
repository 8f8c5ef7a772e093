use Rattle.std.proofs.Common.{arith}
use Rattle.pb_fields.proofs.ValueTexts.{fixed64_front}
use Rattle.pb_fields.proofs.read.fixed64_at.Goals as goal

pub returns-clause-ok : goal.returns-clause-ok
returns-clause-ok c = (omega (arith, c.from_le_bytes.type_inv), rw (c.from_le_bytes.ensures, c.in-Some.ensures.cases.0, c.in-Some.ensures.cases.1) (fixed64_front c.args.bytes.now (omega (arith, c.in-Some.ensures.cases.2)) (λ i. omega (arith, c.type_inv.bytes i))))
