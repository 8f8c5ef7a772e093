use Rattle.state_file.proofs.Rows.{node_can, nodes_step}
use Rattle.state_file.proofs.saving.put_nodes.Goals as goal

pub put_node-requires : goal.put_node-requires
put_node-requires c = rw c.index-brokers-number.is (node_can c.args.brokers.now c.loop-number.number _ c.requires.can c.loop-number-test.true)

pub loop-number-preserved : goal.loop-number-preserved
loop-number-preserved c =
    nodes_step c.args.names.now c.args.brokers.now c.loop-number.number _ c.loop-number.out c.put_node.new.out _ c.loop-number-test.true c.loop-number.invariant (rw c.index-brokers-number.is at c.in_ok-put_node.ensures.ok)
