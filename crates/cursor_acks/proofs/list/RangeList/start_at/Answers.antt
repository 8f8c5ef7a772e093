use Rattle.cursor_acks.specs.Blocks.{flat}
use Rattle.cursor_acks.proofs.Parts.{started_at}
use Rattle.cursor_acks.proofs.list.RangeList.start_at.Goals as goal

pub drop_before-requires : goal.drop_before-requires
drop_before-requires c = (c.set.ensures.places c.args.at c.requires).0

pub returns-clause-list : goal.returns-clause-list
returns-clause-list c =
    let same = (c.set.ensures.places c.args.at c.requires).1 in
    rw (c.drop_before.ensures.list, same, c.set.ensures.list) (started_at c.args.self.now.list (flat c.args.self.now.blocks c.args.at) c.args.range c.set.ensures.within)
