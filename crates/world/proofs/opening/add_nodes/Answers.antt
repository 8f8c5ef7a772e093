use Rattle.std.proofs.Common.{rules}
use Rattle.world.proofs.NewWorlds.{one_more_node}
use Rattle.world.proofs.opening.add_nodes.Goals as goal

pub loop-cluster-preserved : goal.loop-cluster-preserved
loop-cluster-preserved c =
    rw c.in_ok-push.ensures.items
    (one_more_node c.args.scenario.now.setup c.loop-cluster.brokers.items c.args.topic c.loop-cluster.cluster c.in_ok-new_node.field-0 (search rules) c.loop-cluster.invariant
    c.in_ok-new_node.ensures.node c.in_ok-new_node.ensures.broker)
