use Rattle.std.proofs.Common.{arith}
use Rattle.tiered_storage.proofs.Cutting.{lengths_all, lengths_more}
use Rattle.tiered_storage.proofs.cut.lengths_of.Goals as goal

pub loop-part-preserved : goal.loop-part-preserved
loop-part-preserved c =
    lengths_more c.args.parts.now c.loop-part.part-index _ c.part-item.result c.loop-part.lengths.items c.push.new.self.items c.length_of.result c.loop-part-test.true c.part-item.is
    c.loop-part.invariant c.length_of.ensures c.in_ok-push.ensures.items

pub returns : goal.returns
returns c = let test = c.loop-part-test.false in lengths_all c.args.parts.now c.loop-part.part-index c.loop-part.lengths.items (omega (arith, test)) c.loop-part.invariant
