use Rattle.std.proofs.Common.{◌-◌, length, ap, arith}
use Rattle.cursor_acks.proofs.Found.{last_of_block}
use Rattle.cursor_acks.proofs.list.RangeList.before.Goals as goal

pub returns-then-at-gt0-2-clause-some : goal.returns-then-at-gt0-2-clause-some
returns-then-at-gt0-2-clause-some c =
    last_of_block c.args.self.now.blocks c.args.at (length c.block.result.now) c.requires c.if-at-gt0-2.true (omega (arith, c.if-at-gt0.false)) (ap length c.block.ensures.ranges)
    (c.block.ensures.some (omega (arith, c.requires.block, c.if-at-gt0-2.true)))
