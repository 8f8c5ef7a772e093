use Rattle.std.proofs.Common.{arith}
use Rattle.script_text.proofs.CoveredLines.{same_eights}
use Rattle.script_text.proofs.line_ends.has_same_eights.Goals as goal

pub returns-then-first_eight : goal.returns-then-first_eight
returns-then-first_eight c =
    same_eights c.args.line.now c.args.other.now c.first_eight.result c.first_eight-2.result c.last_eight.result c.last_eight-then-first_eight.result
    (λ i. omega (arith, c.type_inv.line i)) (λ i. omega (arith, c.type_inv.other i)) c.requires.same c.requires.long c.requires.short
    c.first_eight.ensures c.first_eight-2.ensures c.last_eight.ensures c.last_eight-then-first_eight.ensures c.if-first_eight.true
