use Rattle.world.proofs.SavedNodes.{one_more, rests_more}
use Rattle.world.proofs.saving.saved_nodes.Goals as goal

pub loop-node-preserved : goal.loop-node-preserved
loop-node-preserved c =
    let p = c.in_ok-saved_node.field-0 in let saved = c.in_ok-saved_node.ensures in let h = c.loop-node.invariant in
    record {
      are = one_more c.loop-node.parts.items c.push.new.self.items c.args.brokers.now c.loop-node.node-index p c.node-item.result c.loop-node-test.true c.in_ok-push.ensures.items c.node-item.is h.are saved.node;
      rests = rests_more c.loop-node.parts.items c.push.new.self.items p c.in_ok-push.ensures.items h.rests saved.rests;
    }
