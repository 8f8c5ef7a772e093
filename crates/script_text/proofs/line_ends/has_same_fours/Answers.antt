use Rattle.std.proofs.Common.{arith}
use Rattle.script_text.proofs.CoveredLines.{same_fours}
use Rattle.script_text.proofs.line_ends.has_same_fours.Goals as goal

pub returns-then-first_four : goal.returns-then-first_four
returns-then-first_four c =
    same_fours c.args.line.now c.args.other.now c.first_four.result c.first_four-2.result c.last_four.result c.last_four-then-first_four.result
    (λ i. omega (arith, c.type_inv.line i)) (λ i. omega (arith, c.type_inv.other i)) c.requires.same c.requires.long c.requires.short
    c.first_four.ensures c.first_four-2.ensures c.last_four.ensures c.last_four-then-first_four.ensures c.if-first_four.true
