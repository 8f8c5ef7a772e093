use Rattle.std.specs.Arc.{arc_value}
use Rattle.node_log.proofs.Openings.{broker_begins}
use Rattle.node_log.proofs.logged.NodeLog.broker.Goals as goal

pub invariant_of-result : goal.invariant_of-result
invariant_of-result g c =
    broker_begins (arc_value c.args.scenario) c.deref.result.now c.args.topic c.args.cluster c.in_ok-node.node c.new.result.history.items c.new.result.clock c.args.ends.rows.items c.deref.ensures
    c.in_ok-node.ensures.known c.requires.topic c.requires.cluster c.in_ok-node.ensures.node c.in_ok-node.ensures.broker c.requires.peers c.new.ensures.history c.new.ensures.clock
