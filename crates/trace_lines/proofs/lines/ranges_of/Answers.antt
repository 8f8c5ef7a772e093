use Rattle.std.proofs.Common.{sym, ◌∙◌, arith}
use Rattle.trace_lines.proofs.SoFar.{ranges_so_far}
use Rattle.trace_lines.proofs.lines.ranges_of.Goals as goal

pub loop-part-preserved : goal.loop-part-preserved
loop-part-preserved c =
    ranges_so_far c.loop-part.ranges _ c.loop-part.last c.loop-part.parts c.in-Some.part.now c.next_part.new.self c.in-Some-range_of.range _ c.in-Some.ensures
    (sym c.range_of.ensures.range ∙ c.in-Some-range_of.is) (grind (arith, c.if-not-may_follow.false, c.may_follow.ensures)) c.in_ok-push.ensures.ok c.loop-part.invariant.0
