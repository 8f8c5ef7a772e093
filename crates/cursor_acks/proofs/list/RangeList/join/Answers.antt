use Rattle.cursor_acks.specs.Blocks.{flat}
use Rattle.cursor_acks.proofs.Parts.{joined_two}
use Rattle.cursor_acks.proofs.list.RangeList.join.Goals as goal

pub remove-requires : goal.remove-requires
remove-requires c = (c.set.ensures.places c.args.low c.requires.low).0

pub returns-clause-list : goal.returns-clause-list
returns-clause-list c =
    let low = flat c.args.self.now.blocks c.args.low in
    let same = (c.set.ensures.places c.args.low c.requires.low).1 in
    rw (c.remove.ensures.list, same, c.set.ensures.list) (joined_two c.args.self.now.list low (flat c.args.self.now.blocks c.args.high) c.args.range c.requires.order c.set.ensures.within)
