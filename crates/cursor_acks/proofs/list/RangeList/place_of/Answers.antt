use Rattle.std.proofs.Common.{◌-◌, [], get_or}
use Rattle.cursor_acks.specs.Blocks.{joined}
use Rattle.cursor_acks.specs.RangeIndexes.{AreKept, IsPlace}
use Rattle.cursor_acks.proofs.Found.{block_kept, found_at}
use Rattle.cursor_acks.proofs.list.RangeList.place_of.Goals as goal

pub place_of-offset-requires : goal.place_of-offset-requires
place_of-offset-requires c =
    rw c.block.ensures.ranges (block_kept c.args.self.now.blocks c.block_of-block.result c.block_of-block.ensures.within (rw c.block.ensures.joined at c.requires))

pub returns : goal.returns
returns c =
    let bs = c.args.self.now.blocks in
    let k = c.block_of-block.result in
    let o = c.place_of-offset.result in
    let kept : AreKept (joined bs) = rw c.block.ensures.joined at c.requires in
    let range_index : IsPlace (get_or bs k []) c.args.index o = rw c.block.ensures.ranges at c.place_of-offset.ensures in
    let found = found_at bs k o c.args.index kept c.block_of-block.ensures.within c.block_of-block.ensures.some c.block_of-block.ensures.before c.block_of-block.ensures.after range_index in
    record { found = found.0; range_index = rw c.block.ensures.joined found.1 }
