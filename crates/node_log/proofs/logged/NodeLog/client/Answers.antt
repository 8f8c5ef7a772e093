use Rattle.std.specs.Arc.{arc_value}
use Rattle.node_log.proofs.Openings.{client_begins}
use Rattle.node_log.proofs.logged.NodeLog.client.Goals as goal

pub invariant_of-result : goal.invariant_of-result
invariant_of-result g c =
    client_begins (arc_value c.args.scenario) c.deref.result.now c.args.client c.in_ok-new_client.field-0 c.new.result.history.items c.new.result.clock c.args.ends.rows.items c.deref.ensures
    c.in_ok-new_client.ensures.known c.requires.client c.in_ok-new_client.ensures.client c.requires.peers c.new.ensures.history c.new.ensures.clock
