use Rattle.broker.specs.Events.{plan_at_node}
use Rattle.broker.proofs.Acts.{halt_done}
use Rattle.broker.proofs.broker.Broker.halt.Goals as goal

pub returns-clause-halted : goal.returns-clause-halted
returns-clause-halted c v stands =
    halt_done c.args.self.now c.prepare.new.self c.prepare_stop.new.self c.commit.new.self c.args.writes (plan_at_node c.args.self.now c.args.event.now v) c.prepare.new.plan c.prepare_stop.new.plan
    (c.in_ok-prepare.ensures.prepared v stands) c.prepare.ensures.broker c.prepare.ensures.node.site c.prepare_stop.ensures.broker c.prepare_stop.ensures.node.site c.in_ok-prepare_stop.ensures.halted c.commit.ensures.broker
