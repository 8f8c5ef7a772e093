use Rattle.state_nodes.proofs.Tails.{sub_below}
use Rattle.state_nodes.proofs.writing.put_each_sub.Goals as goal

pub put_sub-requires : goal.put_sub-requires
put_sub-requires c = rw c.sub-item.is (sub_below c.args.entries c.args.subs.now c.loop-sub.sub-index _ c.requires c.loop-sub-test.true)
